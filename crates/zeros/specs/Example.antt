-- One map whose only spot has a zero peak, and a choice of zeros that shows in it. Definitions only.
use Rattle.std.specs.Prelude.{ℕ, zero, suc, List, [], ◌∷◌, ◌++◌, true, pos, negsuc, replicate, set, Float}
use Rattle.std.specs.Float.{nan, inf, fin, binary32}
use Rattle.std.specs.Float.Ieee.{neg, of_bits}
use Rattle.float.specs.Small.{min_of, max_of}
use Rattle.float.specs.Num.{f0, f1}
use Rattle.tables.specs.declared.Set.{Set}
use Rattle.tables.specs.declared.Thresholds.{Thresholds}
use Rattle.tables.specs.SetT.{set_t}
use Rattle.record.specs.Layout.{bytes_of}
use Rattle.samples.specs.Level.{Maps, maps_of}
use Rattle.zeros.specs.Choices.{Choices, due_by}

-- a zero turned to -0
unfoldable pub darkened : Float → Float
darkened nan = nan
darkened (inf s) = inf s
darkened (fin s zero (pos zero)) = fin true 0 (pos 0)
darkened (fin s zero (pos (suc k))) = fin s zero (pos (suc k))
darkened (fin s zero (negsuc k)) = fin s zero (negsuc k)
darkened (fin s (suc m) e) = fin s (suc m) e

-- where min gives a zero, -0
unfoldable pub dark_min : Choices
dark_min = λ row col is_max i. record { min_p = λ i a b. darkened (min_of a b); max_p = λ i a b. max_of a b; start = λ i. f0 }

-- set T with another scale cubic: b is the last sample less the second, a and c are 0, d is the last sample
unfoldable pub bowl_set : Set
bowl_set = record {
  sigmas = set_t.sigmas;
  scale = set (replicate 12 f0) 4 (neg f1);
  geometry = set_t.geometry;
  spatial = set_t.spatial;
  numbers = set_t.numbers;
  order = set_t.order;
}

-- a window of 0 alone, and peaks below 1
unfoldable pub lenient : Thresholds
lenient = record { peak = neg f1; sigma = f1; ratio = of_bits binary32 0x41200000; low = f0; high = f0 }

-- the first level and the third
unfoldable pub flat_level : List Float
flat_level = replicate 81 f0

-- the second: 1 at (4, 4)
unfoldable pub point_level : List Float
point_level = set flat_level 40 f1

-- the fourth: ones around nine zeros, of which the four beside (4, 4) are -0, so that the sample there is -0
unfoldable pub pit_level : List Float
pit_level =
    let rim = replicate 27 f1 in
    let side = f1 ∷ f1 ∷ f1 ∷ f0 ∷ neg f0 ∷ f0 ∷ f1 ∷ f1 ∷ f1 ∷ [] in
    let middle = f1 ∷ f1 ∷ f1 ∷ neg f0 ∷ f0 ∷ neg f0 ∷ f1 ∷ f1 ∷ f1 ∷ [] in
    rim ++ (side ++ (middle ++ (side ++ rim)))

-- 9 by 9: the pixel (4, 4) alone is judged
unfoldable pub pit_maps : Maps
pit_maps = maps_of flat_level point_level flat_level pit_level (record { rows = 9; cols = 9; octave = 0 }) bowl_set lenient

-- the bytes of its list
unfoldable pub pit_bytes : Choices → List ℕ
pit_bytes P = bytes_of (due_by P pit_maps)
