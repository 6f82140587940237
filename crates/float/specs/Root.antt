-- Square roots of whole numbers. Definitions only.
use Rattle.std.specs.Prelude.{ℕ, zero, suc, ◌+◌, ◌*◌, ◌/◌, ◌≤◌, ◌<◌, cond, leb}

-- r is the root of n, cut to a whole number
pub record Root (n r : ℕ) : Type 0 where
  pub low : r * r ≤ n
  pub high : n < suc r * suc r

-- r or r + 1: the larger one whose square is at most n
unfoldable pub digit : ℕ → ℕ → ℕ
digit n r = cond (leb (suc r * suc r) n) (suc r) r

-- the root of n, cut to a whole number, for n below 4 ^ k: one binary digit for each of k
unfoldable pub root_by : ℕ → ℕ → ℕ
root_by zero n = zero
root_by (suc k) n = digit n (2 * root_by k (n / 4))

-- the same for n below 2 ^ 48
unfoldable pub isqrt : ℕ → ℕ
isqrt n = root_by 24 n

-- r, or r + 1 where n is above the square of r + 1/2, which is r * r + r and a quarter: no whole number is that square, so there is no tie
unfoldable pub nearer : ℕ → ℕ → ℕ
nearer n r = cond (leb n (r * r + r)) r (suc r)

-- the whole number nearest to the root of n, for n below 2 ^ 48
unfoldable pub near_root : ℕ → ℕ
near_root n = nearer n (isqrt n)
