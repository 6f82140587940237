-- What one tile answers, and what it leaves in the output; what its functions ask for. Definitions only.
use Rattle.std.specs.Prelude.{ℕ, zero, suc, ◌+◌, ◌*◌, ◌^◌, ◌≤◌, ◌<◌, ◌≡◌, true, false, cond, List, [], ◌∷◌, ◌++◌, length, take, leb, Float, Option, Some, None}
use Rattle.std.proofs.lemmas.List.Edits.{sets}
use Rattle.tables.specs.declared.Set.{Set}
use Rattle.tables.specs.declared.Thresholds.{Thresholds}
use Rattle.tables.specs.Set.{good}
use Rattle.tables.specs.Refusal.{any_nan}
use Rattle.record.specs.declared.Record.{Record}
use Rattle.record.specs.Layout.{spot_width, bytes_of, record_from}
use Rattle.sized.specs.Sized.{Placed}
use Rattle.samples.specs.Level.{maps_of}
use Rattle.detect.specs.Due.{due}
use Rattle.tile.specs.Numbered.{numbered_width, tile_bytes}

-- ---- a tile that the detector takes

-- a map of h by w whose four levels have n0 to n3 floats passes the detector's checks
pub record Small (s : Set) (th : Thresholds) (h w octave n0 n1 n2 n3 : ℕ) : Type 0 where
  pub is-good : good s ≡ true
  pub clean : any_nan th ≡ false
  pub tall : h ≤ 4096
  pub wide : w ≤ 4096
  pub few : octave ≤ 5
  pub long0 : n0 ≡ h * w
  pub long1 : n1 ≡ h * w
  pub long2 : n2 ≡ h * w
  pub long3 : n3 ≡ h * w

-- what it lists
abbrev pub found_in : Set → Thresholds → ℕ → ℕ → ℕ → List Float → List Float → List Float → List Float → List Record
found_in s th h w octave l0 l1 l2 l3 = due (maps_of l0 l1 l2 l3 (record { rows = h; cols = w; octave = octave }) s th)

-- n records are found, and where there are at most 2,730 the room held begins with them
pub record Holds (rs : List Record) (n : ℕ) (held : List ℕ) : Type 0 where
  pub count : n ≡ length rs
  pub begins : n ≤ 2730 → take (n * spot_width) held ≡ bytes_of rs

-- ---- what it leaves in the output

-- what a tile answers, and the output after it
pub record Filling : Type 0 where
  pub answer : Option ℕ
  pub out : List ℕ

-- these two, given one by one
abbrev pub filling : Option ℕ → List ℕ → Filling
filling a out = record { answer = a; out = out }

-- the records of the tile (i, j) follow done others where all of them have room; else nothing is written
unfoldable pub fill_of : Set → ℕ → ℕ → List Record → ℕ → List ℕ → Filling
fill_of s i j rs done out =
    cond (leb ((done + length rs) * numbered_width) (length out))
    (filling (Some (done + length rs)) (sets out (done * numbered_width) (tile_bytes s i j rs))) (filling None out)

-- the tile's numbers are u16, and the done records lie in the output
pub record Fits (i j done room : ℕ) : Type 0 where
  pub down : i < 2 ^ 16
  pub right : j < 2 ^ 16
  pub lies : done * numbered_width ≤ room

-- ---- inside: records that are sized in place

-- n records that stand one after the other from the byte at on
unfoldable pub records_in : List ℕ → ℕ → ℕ → List Record
records_in b at zero = []
records_in b at (suc n) = records_in b at n ++ (record_from b (at + spot_width * n) ∷ [])

-- the record at from may be sized into the place at to, with the tile's numbers i and j
pub record Sizes (i j : ℕ) (out : List ℕ) (from to : ℕ) : Type 0 where
  pub down : i < 2 ^ 16
  pub right : j < 2 ^ 16
  pub source : from + spot_width ≤ length out
  pub place : to + numbered_width ≤ length out
  pub placed : Placed (record_from out from)

-- n records stand at the end of the place that they need, sized and numbered, from base on
pub record Stand (i j : ℕ) (out : List ℕ) (base n : ℕ) : Type 0 where
  pub down : i < 2 ^ 16
  pub right : j < 2 ^ 16
  pub place : base + numbered_width * n ≤ length out
  pub placed : (k : ℕ) → k < n → Placed (record_from out (base + 16 * n + spot_width * k))
