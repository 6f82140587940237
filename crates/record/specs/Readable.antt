-- When a record is readable. Definitions only.
use Rattle.std.specs.Prelude.{ℕ, ◌-◌, ◌*◌, ◌≤◌, ◌<◌, ◌≡◌, Bool, true, ◌&&◌, ◌||◌, ◌⊎◌, pos, leb, ltb, eqb, Float}
use Rattle.std.specs.Float.{binary32}
use Rattle.std.specs.Float.Ieee.{of_int, le}
use Rattle.float.specs.Small.{finite}
use Rattle.float.specs.Num.{f0}
use Rattle.moves.specs.Moves.{nearby}
use Rattle.record.specs.declared.Record.{Record}

-- each of its floats but the displacements is finite
unfoldable pub finite_record : Record → Bool
finite_record r =
    finite r.x && finite r.y && finite r.sigma && finite r.peak && finite r.s0 && finite r.s1 && finite r.s2 && finite r.s3

-- x is 0 to last
unfoldable pub within : ℕ → Float → Bool
within last x = le f0 x && le x (of_int binary32 (pos last))

-- x is 0 to n - 1
unfoldable pub on_side : ℕ → Float → Bool
on_side n x = within (n - 1) x

-- A record is bad unless its floats are finite, x is 0 to cols-1, y 0 to rows-1, the key under rows*cols, octave to 5, index 1 or 2, polarity 0 or 1, spare 0,
-- and both displacements finite and at most 0.6 in size.
unfoldable pub readable : ℕ → ℕ → Record → Bool
readable rows cols r =
    finite_record r && on_side cols r.x && on_side rows r.y && ltb r.key (rows * cols) && leb r.octave 5
    && (eqb r.index 1 || eqb r.index 2) && leb r.polarity 1 && eqb r.spare 0
    && nearby r.dx && nearby r.dy

-- ---- the same, part by part

-- each float but the displacements is finite
pub record Finite (r : Record) : Type 0 where
  pub x : finite r.x ≡ true
  pub y : finite r.y ≡ true
  pub sigma : finite r.sigma ≡ true
  pub peak : finite r.peak ≡ true
  pub s0 : finite r.s0 ≡ true
  pub s1 : finite r.s1 ≡ true
  pub s2 : finite r.s2 ≡ true
  pub s3 : finite r.s3 ≡ true

-- each thing that a readable record has
pub record Readable (rows cols : ℕ) (r : Record) : Type 0 where
  pub floats : Finite r
  pub x : on_side cols r.x ≡ true
  pub y : on_side rows r.y ≡ true
  pub key : r.key < rows * cols
  pub octave : r.octave ≤ 5
  pub index : (r.index ≡ 1) ⊎ (r.index ≡ 2)
  pub polarity : r.polarity ≤ 1
  pub spare : r.spare ≡ 0
  pub dx : nearby r.dx ≡ true
  pub dy : nearby r.dy ≡ true
