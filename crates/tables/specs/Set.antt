-- The set: its record's layout, and when a set is good. Definitions only.
use Rattle.std.specs.Prelude.{ℕ, List, [], ◌∷◌, Bool, true, not, ◌&&◌, eqb, ltb, get_or, length, take, drop, replicate, Float}
use Rattle.std.specs.Float.{nan}
use Rattle.std.specs.Float.Ieee.{lt}
use Rattle.float.specs.Small.{finite}
use Rattle.float.specs.Num.{f0}
use Rattle.words.specs.Words.{floats_at}
use Rattle.tables.specs.declared.Set.{Set}

-- every element of the list passes the test
unfoldable pub every : {A : Type 0} → (A → Bool) → List A → Bool
every p [] = true
every p (x ∷ xs) = p x && every p xs

-- every float of the list is finite
abbrev pub all_finite : List Float → Bool
all_finite xs = every finite xs

-- every number of the list is under n
abbrev pub all_under : ℕ → List ℕ → Bool
all_under n xs = every (λ x. ltb x n) xs

-- the sigmas are positive and strictly rising
unfoldable pub rising : List Float → Bool
rising g = lt f0 (get_or g 0 nan) && lt (get_or g 0 nan) (get_or g 1 nan) && lt (get_or g 1 nan) (get_or g 2 nan) && lt (get_or g 2 nan) (get_or g 3 nan)

-- all 129 floats are finite
unfoldable pub all_set : Set → Bool
all_set s = all_finite s.sigmas && all_finite s.scale && all_finite s.geometry && all_finite s.spatial && all_finite s.numbers

-- A set is good when all 129 floats are finite, the sigmas are positive and strictly rising, the cap is not below 0, and each order byte is under 9 (repeats allowed).
unfoldable pub good : Set → Bool
good s = all_set s && rising s.sigmas && not (lt (get_or s.numbers 10 nan) f0) && all_under 9 s.order

-- the set of zeros
unfoldable pub blank : Set
blank = record {
  sigmas = replicate 4 f0;
  scale = replicate 12 f0;
  geometry = replicate 12 f0;
  spatial = replicate 90 f0;
  numbers = replicate 11 f0;
  order = replicate 9 0;
}

-- ---- the record of 528 bytes

-- 4 sigmas; 12 scale cubic and 12 geometry cubic entries; 45 spatial entries for scale index 1, then 45 for 2; 11 geometry numbers; 9 sample-order bytes
unfoldable pub set_of : List ℕ → Set
set_of b = record {
  sigmas = floats_at 4 b 0;
  scale = floats_at 12 b 4;
  geometry = floats_at 12 b 16;
  spatial = floats_at 90 b 28;
  numbers = floats_at 11 b 118;
  order = take 9 (drop 516 b);
}

-- the three spare bytes are 0
unfoldable pub spare_zero : List ℕ → Bool
spare_zero b = eqb (get_or b 525 0) 0 && eqb (get_or b 526 0) 0 && eqb (get_or b 527 0) 0

-- a record is good: 528 long, its spare bytes 0, and its set good
unfoldable pub good_record : List ℕ → Bool
good_record b = eqb (length b) 528 && spare_zero b && good (set_of b)
