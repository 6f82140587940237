-- `logexp::exponential::exp_up` meets its contract. Assumes nothing.
use mathlib.Core.Path.{◌≡◌, ap, ◌∙◌}
use Prim.Native.Nat.{ℕ, ◌+◌, ◌-◌, ◌*◌, ◌/◌, ◌^◌, ◌≤◌, ◌<◌}
use native.Mathlib.Nat.{le_of_lt}
use borrow.Author.Tests.{lt-ltb, le-ltb}
use lib.Ieee.{binary32, of_bits, div}
use Rattle.logexp.specs.Exp.{ln2_in30, bias_before_carry, up_count, series_of, capped, exp_up}
use Rattle.float.proofs.Patterns.{not-nan_pattern}
use Rattle.logexp.proofs.exponential.exp_up.Goals as goal

capped_yes : (t : ℕ) → t < 0x7f80_0000 → of_bits binary32 t ≡ capped t
unfolding capped
capped_yes t h = simp (lt-ltb t 0x7f80_0000 h)

capped_no : (t : ℕ) → 0x7f80_0000 ≤ t → div binary32 (of_bits binary32 1065353216) (of_bits binary32 0) ≡ capped t
unfolding capped div of_bits
capped_no t h = simp (le-ltb t 0x7f80_0000 h)

same : (a s : ℕ) → s ≡ series_of (a - up_count a * ln2_in30) → capped ((up_count a + bias_before_carry) * 2 ^ 23 + s / 2 ^ 7) ≡ exp_up a
unfolding exp_up
same a s e = ap (λ (p : ℕ). capped ((up_count a + bias_before_carry) * 2 ^ 23 + p / 2 ^ 7)) e

pub float_from_bits-result : goal.float_from_bits-result
float_from_bits-result c = not-nan_pattern _ (le_of_lt c.if-t-lt2139095040.true)

pub returns-then-t-lt2139095040 : goal.returns-then-t-lt2139095040
returns-then-t-lt2139095040 c = capped_yes _ c.if-t-lt2139095040.true ∙ same c.args.a c.series-p.result c.series-p.ensures.0

pub returns-else-t-lt2139095040 : goal.returns-else-t-lt2139095040
returns-else-t-lt2139095040 c = capped_no _ c.if-t-lt2139095040.false ∙ same c.args.a c.series-p.result c.series-p.ensures.0
