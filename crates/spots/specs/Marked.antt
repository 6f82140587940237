-- How many pixels are marked. Nothing here stands in a promise of an entry. Definitions only.
use Rattle.std.specs.Prelude.{ℕ, zero, suc, ◌+◌, cond, List, eqb, get_or}

-- how many of the first n marks are not 0
unfoldable pub marked_of : List ℕ → ℕ → ℕ
marked_of marks zero = 0
marked_of marks (suc n) = marked_of marks n + cond (eqb (get_or marks n 0) 0) 0 1
