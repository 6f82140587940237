-- `logexp::exponential::exp_down` meets its contract. Assumes nothing.
use mathlib.Core.Path.{◌≡◌, ap, ◌∙◌}
use Prim.Native.Nat.{ℕ, ◌+◌, ◌-◌, ◌*◌, ◌/◌, ◌^◌, ◌≤◌, ◌<◌}
use native.Mathlib.Omega.{arith}
use borrow.Author.Tests.{lt-ltb, le-ltb, eq-eqb, ne_eqb}
use lib.Ieee.{binary32, of_bits}
use Rattle.logexp.specs.Exp.{ln2_in30, bias_before_carry, down_count, series_of, below_one, exp_down}
use Rattle.float.proofs.Patterns.{not-nan_pattern}
use Rattle.logexp.proofs.Steps.{cut_lt}
use Rattle.logexp.proofs.exponential.exp_down.Goals as goal
use Rattle.logexp.proofs.exponential.exp_down.Goals.{Else-n-lt127}

cut : (c : Else-n-lt127) → c.series-p.result / 2 ^ (down_count c.args.a - 119) < 2 ^ 24
cut c = cut_lt (down_count c.args.a) c.series-p.result c.if-n-lt127.false c.series-p.ensures.1

below_yes : (n p : ℕ) → n < 127 → (bias_before_carry - n) * 2 ^ 23 + p / 2 ^ 7 ≡ below_one n p
unfolding below_one
below_yes n p h = simp (lt-ltb n 127 h)

below_no : (n p : ℕ) → 127 ≤ n → p / 2 ^ (n - 119) ≡ below_one n p
unfolding below_one
below_no n p h = simp (le-ltb n 127 h)

same : (a s : ℕ) → (a ≡ 0 → ⊥) → s ≡ series_of (down_count a * ln2_in30 - a) → of_bits binary32 (below_one (down_count a) s) ≡ exp_down a
unfolding exp_down
same a s n e = simp (ne_eqb a 0 n) (ap (λ (p : ℕ). of_bits binary32 (below_one (down_count a) p)) e)

pub returns-then-a-eq0 : goal.returns-then-a-eq0
unfolding exp_down of_bits
returns-then-a-eq0 c = simp (eq-eqb _ _ c.if-a-eq0.true)

pub float_from_bits-result : goal.float_from_bits-result
float_from_bits-result c = not-nan_pattern _ (omega arith)

pub overflow_cast-result-else-n-lt127 : goal.overflow_cast-result-else-n-lt127
overflow_cast-result-else-n-lt127 c = omega (arith, cut (goal.at.overflow_cast-result-else-n-lt127 c).Else-n-lt127)

pub float_from_bits-result-else-n-lt127 : goal.float_from_bits-result-else-n-lt127
float_from_bits-result-else-n-lt127 c = not-nan_pattern _ (omega (arith, cut (goal.at.float_from_bits-result-else-n-lt127 c).Else-n-lt127))

pub returns-then-n-lt127 : goal.returns-then-n-lt127
returns-then-n-lt127 c =
    ap (of_bits binary32) (below_yes _ _ c.if-n-lt127.true)
    ∙ same c.args.a c.series-p.result c.if-a-eq0.false c.series-p.ensures.0

pub returns-else-n-lt127 : goal.returns-else-n-lt127
returns-else-n-lt127 c =
    ap (of_bits binary32) (below_no _ _ c.if-n-lt127.false)
    ∙ same c.args.a c.series-p.result c.if-a-eq0.false c.series-p.ensures.0
