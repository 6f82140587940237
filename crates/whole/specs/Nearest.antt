-- The whole number nearest to a float's exact value, a half going to the larger number, by whole numbers. Definitions only.
use Rattle.std.specs.Prelude.{ℕ, ◌+◌, ◌*◌, ◌/◌, ◌^◌, ◌≤◌, ◌<◌, cond, ltb, Float}
use Rattle.std.specs.Float.{nan, inf, fin}
use Rattle.std.specs.Float.Ieee.Positive.{num, den}
use Rattle.float.specs.Pattern.{units_of}

-- n is nearest to x: 2n-1 <= 2v < 2n+1 for x's exact value v, which is num x / den x without its sign. Both sides are multiplied by den x, and what is taken off on one side is added on the other
pub record Nearest (x : Float) (n : ℕ) : Type 0 where
  pub low : 2 * n * den x ≤ 2 * num x + den x
  pub high : 2 * num x < (2 * n + 1) * den x

-- the largest number that a u32 holds
abbrev pub largest : ℕ
largest = 0xffff_ffff

-- a number above the largest becomes the largest
unfoldable pub saturated : ℕ → ℕ
saturated n = cond (ltb largest n) largest n

-- the whole number nearest to a / c: half more than it, cut
unfoldable pub nearest_to : ℕ → ℕ → ℕ
nearest_to a c = (2 * a + c) / (2 * c)

-- the u32 nearest to x, a half going to the larger: 0 for each value below 0 and for NaN, the largest for each value above it
unfoldable pub nearest_of : Float → ℕ
nearest_of nan = 0
nearest_of (inf s) = cond s 0 largest
nearest_of (fin s m e) = cond s 0 (saturated (nearest_to (num (fin s m e)) (den (fin s m e))))

-- the same from a bit pattern: 0 above the infinity's, where the NaN and the values with a sign are
unfoldable pub nearest_bits : ℕ → ℕ
nearest_bits b = cond (ltb 0x7f80_0000 b) 0 (saturated (nearest_to (units_of b) (2 ^ 149)))
