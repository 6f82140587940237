-- What makes a value the IEEE 754 root, said by squares of whole numbers. Definitions only.
use Rattle.std.specs.Prelude.{ℕ, ◌+◌, ◌-◌, ◌*◌, ◌^◌, ◌≤◌, ◌<◌, Bool, true, false, T, Float}
use Rattle.std.specs.Float.{binary32}
use Rattle.std.specs.Float.Ieee.{fits}
use Rattle.std.specs.Float.Ieee.Exact.{HasValue}

-- r is the root of n units of 2 ^ -149, rounded to the nearest value of 24 digits (the root's square, in units of 2 ^ -298, is n * 2 ^ 149)
pub record IsRoot (n : ℕ) (r : Float) : Type 0 where
  -- r is q * 2 ^ k units, and q has 24 digits
  pub q : ℕ
  pub k : ℕ
  pub value : HasValue r false (q * 2 ^ k) (2 ^ 149)
  pub held : T (fits binary32 r)
  pub full : 2 ^ 23 ≤ q
  pub short : q < 2 ^ 24
  -- the root itself lies from 2 ^ 23 up to 2 ^ 24, times 2 ^ k
  pub from : 2 ^ 46 * 2 ^ (2 * k) ≤ n * 2 ^ 149
  pub to : n * 2 ^ 149 < 2 ^ 48 * 2 ^ (2 * k)
  -- and between q - 1/2 and q + 1/2, times 2 ^ k: never a tie
  pub low : (2 * q - 1) * (2 * q - 1) * 2 ^ (2 * k) < 4 * (n * 2 ^ 149)
  pub high : 4 * (n * 2 ^ 149) < (2 * q + 1) * (2 * q + 1) * 2 ^ (2 * k)

-- A value of a units, negative where the sign says so, is no nearer than R units to the root of M, which is in units of 2 ^ -298: where the value is
-- below R the mean of the two is not above the root, and where it is above R the mean is not below it.
abbrev pub NoNearer : Bool → ℕ → ℕ → ℕ → Type 0
NoNearer false a R M = (a < R → (a + R) * (a + R) ≤ 4 * M) × (R < a → 4 * M ≤ (a + R) * (a + R))
NoNearer true a R M = (R - a) * (R - a) ≤ 4 * M
