-- What rules a pixel out at a polarity, as the lists see it. Definitions only.
use Rattle.std.specs.Prelude.{ℕ, ◌+◌, ◌/◌, ◌%◌, ◌≤◌, ◌<◌, ◌≡◌, Bool, true, false, cond, List, length, get_or, Float}
use Rattle.tables.specs.declared.Set.{Set}
use Rattle.rivals.specs.Near.{reached_of}
use Rattle.rivals.specs.Ends.{survives_of}

-- the code of the i-th pixel at a polarity
abbrev pub code_of : ℕ → Bool → ℕ
code_of i is_max = cond is_max (780 + i) i

-- a polarity's bit of a word
abbrev pub bit_of : ℕ → Bool → ℕ
bit_of w is_max = cond is_max (w / 2 % 2) (w % 2)

-- the i-th pixel's word has not the polarity's bit, or has it and a neighbour or the refinement rules the candidate out
pub data Off (s : Set) (ratio : Float) (x y z : ℕ) (a b c d p v : List Float) (w : List ℕ) (i : ℕ) (is_max : Bool) : Type 0 where
  unmarked : bit_of (get_or w (y + i + 1) 0) is_max ≡ 0 → Off s ratio x y z a b c d p v w i is_max
  reached : bit_of (get_or w (y + i + 1) 0) is_max ≡ 1 → reached_of s.sigmas x y z (code_of i is_max) p v ≡ true → Off s ratio x y z a b c d p v w i is_max
  fallen : bit_of (get_or w (y + i + 1) 0) is_max ≡ 1 → survives_of s ratio x y z (code_of i is_max) a b c d p v ≡ false → Off s ratio x y z a b c d p v w i is_max

-- a 0 says that the pixel's word is below 4 and that it is ruled out at both polarities; nothing but 0 and 1 is kept
pub record Thin (s : Set) (ratio : Float) (n x y z : ℕ) (a b c d p v : List Float) (w keep : List ℕ) : Type 0 where
  pub sure : (i : ℕ) → i < n → get_or keep i 0 ≡ 0 → get_or w (y + i + 1) 0 < 4
  pub off : (i : ℕ) → i < n → get_or keep i 0 ≡ 0 → (is_max : Bool) → Off s ratio x y z a b c d p v w i is_max
  pub bits : (i : ℕ) → i < 256 → get_or keep i 0 ≤ 1
  pub long : length keep ≡ 256
