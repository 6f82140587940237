-- Numbers and records as text, in ASCII. Definitions only.
use Rattle.std.specs.Prelude.{ℕ, zero, suc, ◌+◌, ◌-◌, ◌*◌, ◌/◌, ◌%◌, cond, ◌≡◌, List, [], ◌∷◌, ◌++◌, length, take, drop, ltb}
use Rattle.record.specs.declared.Record.{Record}
use Rattle.record.specs.Layout.{spot_width, record_bytes}

-- ---- hex digits

-- a digit below 16, in lower case
unfoldable pub hex_digit : ℕ → ℕ
hex_digit d = cond (ltb d 10) (48 + d) (87 + d)

-- bytes as two hex digits each, the high one first
unfoldable pub hex_of : List ℕ → List ℕ
hex_of [] = []
hex_of (x ∷ xs) = hex_digit (x / 16) ∷ hex_digit (x % 16) ∷ hex_of xs

-- a line of bytes as hex digits
unfoldable pub line_of : List ℕ → List ℕ
line_of b = hex_of b ++ (10 ∷ [])

-- how many bytes a record's line has: two digits for each of the record's, and the line's end
abbrev pub line_width : ℕ
line_width = 2 * spot_width + 1

-- records' bytes as hex digits, a line for each
unfoldable pub lines_of : List Record → List ℕ
lines_of [] = []
lines_of (r ∷ rs) = line_of (record_bytes r) ++ lines_of rs

-- the same for the first n records of a buffer
unfoldable pub lines_in : ℕ → List ℕ → List ℕ
lines_in zero b = []
lines_in (suc n) b = lines_in n b ++ line_of (take spot_width (drop (n * spot_width) b))

-- ---- decimal digits

-- the decimal digits of n, where n has at most k + 1 of them
unfoldable pub decimal_by : ℕ → ℕ → List ℕ
decimal_by zero n = (48 + n) ∷ []
decimal_by (suc k) n = cond (ltb n 10) ((48 + n) ∷ []) (decimal_by k (n / 10) ++ ((48 + n % 10) ∷ []))

-- the decimal digits of n
unfoldable pub decimal : ℕ → List ℕ
decimal n = decimal_by n n

-- the number that decimal digits give, after one that stands before them
unfoldable pub value_after : ℕ → List ℕ → ℕ
value_after v [] = v
value_after v (d ∷ ds) = value_after (10 * v + (d - 48)) ds

-- ---- the last line

-- `found `
abbrev pub found_word : List ℕ
found_word = 102 ∷ 111 ∷ 117 ∷ 110 ∷ 100 ∷ 32 ∷ []

-- `refused `
abbrev pub refused_word : List ℕ
refused_word = 114 ∷ 101 ∷ 102 ∷ 117 ∷ 115 ∷ 101 ∷ 100 ∷ 32 ∷ []

-- `found N`
unfoldable pub found_line : ℕ → List ℕ
found_line n = found_word ++ (decimal n ++ (10 ∷ []))

-- `refused K`
unfoldable pub refused_line : ℕ → List ℕ
refused_line k = refused_word ++ (decimal k ++ (10 ∷ []))

-- ---- text written into a buffer

-- what a function that writes text from the byte at on answers and leaves
pub record Wrote (out out' : List ℕ) (at r : ℕ) (text : List ℕ) : Type 0 where
  pub count : r ≡ at + length text
  pub long : length out' ≡ length out
  pub bytes : take r out' ≡ take at out ++ text
