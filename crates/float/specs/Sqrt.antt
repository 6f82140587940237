-- The IEEE 754 square root of binary32, over the values of lib.Ieee. Definitions only.
use Rattle.std.specs.Prelude.{ℕ, zero, suc, ◌+◌, ◌*◌, ◌/◌, ◌^◌, true, false, ℤ}
use lib.Ieee.{Float, nan, inf, fin, up, down, size, odd}
use Rattle.float.specs.Root.{near_root}

-- m * 2 ^ e in units of 2 ^ -149, the smallest positive value
unfoldable pub in_units : ℕ → ℤ → ℕ
in_units m e = m * up e * 2 ^ 149 / down e

-- the k for which the root of n units is q * 2 ^ k units with a q of 24 digits (its square, in units of 2 ^ -298, is n * 2 ^ 149)
unfoldable pub scale : ℕ → ℕ
scale n = (size n + 102) / 2

-- the square of that q before it is rounded: n * 2 ^ 149 in units of 2 ^ (2 * k), from 2 ^ 46 up to 2 ^ 48; at a value of binary32 nothing is cut off
unfoldable pub radicand : ℕ → ℕ
radicand n = n * 2 ^ 149 / 2 ^ (2 * scale n)

-- the root of n units, rounded to 24 digits
unfoldable pub root_units : ℕ → Float
root_units n = odd 24 false (near_root (radicand n)) (scale n) 149

-- the IEEE 754 square root: either zero and plus infinity give themselves, NaN and all below 0 give NaN
unfoldable pub sqrt_of : Float → Float
sqrt_of nan = nan
sqrt_of (inf true) = nan
sqrt_of (inf false) = inf false
sqrt_of (fin s zero e) = fin s zero e
sqrt_of (fin true (suc m) e) = nan
sqrt_of (fin false (suc m) e) = root_units (in_units (suc m) e)

-- the pattern of the root of n units
unfoldable pub root_pattern : ℕ → ℕ
root_pattern n = scale n * 0x80_0000 + near_root (radicand n)
