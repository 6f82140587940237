-- The marks of a block of up to 256 rows and 4,096 columns. Nothing here stands in a promise of an entry. Definitions only.
use Rattle.std.specs.Prelude.{ℕ, ◌+◌, ◌*◌, ◌/◌, ◌%◌, ◌^◌, ◌<◌, ◌≡◌, List, length, get_or}

-- the mark of the pixel in the block's i-th row: eight rows of a column lie in a byte
unfoldable pub mark_at : List ℕ → ℕ → ℕ → ℕ
mark_at marks i col = get_or marks (i / 8 * 4096 + col) 0 / 2 ^ (i % 8) % 2

-- the marks of one column written, and all others kept
pub record Put (keep : List ℕ) (col : ℕ) (marks marks' : List ℕ) : Type 0 where
  pub here : (i : ℕ) → i < 256 → mark_at marks' i col ≡ get_or keep i 0
  pub same : (i c : ℕ) → i < 256 → c < 4096 → (c ≡ col → ⊥) → mark_at marks' i c ≡ mark_at marks i c
  pub long : length marks' ≡ 131072
