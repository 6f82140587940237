-- Words and floats as little-endian bytes, written and read. Definitions only.
use Rattle.std.specs.Prelude.{ℕ, zero, suc, ◌+◌, ◌*◌, ◌/◌, ◌%◌, List, [], ◌∷◌, get_or, Float}
use Rattle.std.specs.Float.{binary32}
use Rattle.std.specs.Float.Ieee.{of_bits, to_bits}

-- ---- writing

-- a word's four bytes, the lowest first
unfoldable pub word_bytes : ℕ → List ℕ
word_bytes v = v % 256 ∷ v / 256 % 256 ∷ v / 65536 % 256 ∷ v / 16777216 % 256 ∷ []

-- a u16's two bytes, the lower first
unfoldable pub half_bytes : ℕ → List ℕ
half_bytes v = v % 256 ∷ v / 256 ∷ []

-- a float's four, by its bit pattern
unfoldable pub float_bytes : Float → List ℕ
float_bytes x = word_bytes (to_bits binary32 x)

-- ---- reading

-- the little-endian word that begins at the byte at
unfoldable pub word_from : List ℕ → ℕ → ℕ
word_from b at = get_or b at 0 + 256 * get_or b (at + 1) 0 + 65536 * get_or b (at + 2) 0 + 16777216 * get_or b (at + 3) 0

-- the float that begins there; a NaN pattern gives NaN
unfoldable pub float_from : List ℕ → ℕ → Float
float_from b at = of_bits binary32 (word_from b at)

-- n floats from the i-th word on
unfoldable pub floats_at : ℕ → List ℕ → ℕ → List Float
floats_at zero b i = []
floats_at (suc n) b i = float_from b (4 * i) ∷ floats_at n b (suc i)
