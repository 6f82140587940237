-- Bytes of records that differ at most in the signs of zero peaks. Definitions only.
use Rattle.std.specs.Prelude.{ℕ, ◌/◌, ◌%◌, ◌≡◌, true, ◌⊎◌, List, get_or, length}
use Rattle.std.specs.Float.Ieee.{eq}
use Rattle.float.specs.Num.{f0}
use Rattle.record.specs.declared.Record.{Record}
use Rattle.record.specs.Layout.{spot_width}

-- The bytes of records: equal but for each record's byte 15, the last of the peak's four, and there equal but for its top bit, the sign.
pub record BytesNear (a b : List ℕ) : Type 0 where
  pub long : length a ≡ length b
  pub others : (n : ℕ) → (n % spot_width ≡ 15 → ⊥) → get_or a n 0 ≡ get_or b n 0
  pub signs : (n : ℕ) → get_or a n 0 % 128 ≡ get_or b n 0 % 128

-- the peaks of both records are zeros
abbrev pub ZeroPeaks : Record → Record → Type 0
ZeroPeaks a b = (eq a.peak f0 ≡ true) × (eq b.peak f0 ≡ true)

-- Byte n of the bytes a and b, of the records rs and ts: equal, or the sign byte of a peak that is a zero in both. The record d stands past the ends.
abbrev pub ByteNear : List ℕ → List ℕ → List Record → List Record → ℕ → Record → Type 0
ByteNear a b rs ts n d = (get_or a n 0 ≡ get_or b n 0) ⊎ ((n % spot_width ≡ 15) × ZeroPeaks (get_or rs (n / spot_width) d) (get_or ts (n / spot_width) d))
