-- The words of the claims about log2, over whole numbers and the floats' exact values. Definitions only.
use Rattle.std.specs.Prelude.{ℕ, ◌+◌, ◌*◌, ◌≤◌, ◌<◌, ◌^◌, true, false, ◌≡◌, T, Float}
use Rattle.std.specs.Float.Ieee.Exact.{HasValue}
use Rattle.std.specs.Float.Ieee.Positive.{num, den, positive}

-- x is positive and from 2^(E - 149) up to 2^(E - 148)
pub record Octave (E : ℕ) (x : Float) : Type 0 where
  pub plus : T (positive x)
  pub least : 2 ^ E * den x ≤ num x * 2 ^ 149
  pub under : num x * 2 ^ 149 < 2 ^ (E + 1) * den x

-- r, which is N / C or -N / C, lies from E - 149 to E - 148
pub data Between (E : ℕ) (r : Float) : Type 0 where
  up : (N C : ℕ) → 0 < C → HasValue r false N C → E * C ≤ N + 149 * C → N + 149 * C ≤ (E + 1) * C → Between E r
  down : (N C : ℕ) → 0 < C → HasValue r true N C → E * C + N ≤ 149 * C → 149 * C ≤ (E + 1) * C + N → Between E r

-- r is exactly E - 149
pub data Exactly (E : ℕ) (r : Float) : Type 0 where
  up : (N : ℕ) → HasValue r false N 1 → N + 149 ≡ E → Exactly E r
  down : (N : ℕ) → HasValue r true N 1 → E + N ≡ 149 → Exactly E r
