-- `logexp::logarithm::expo` meets its contract. Assumes nothing.
use mathlib.Core.Path.{sym, ap, ◌∙◌, subst}
use Prim.Native.Nat.{ℕ, ◌+◌, ◌-◌, ◌≤◌}
use native.Mathlib.Omega.{arith}
use lib.Count.{count_leading_zeros}
use Rattle.float.specs.Pattern.{field_of}
use Rattle.float.proofs.Patterns.{field_in}
use Rattle.float.proofs.Width.{Wide, wide_lead}
use Rattle.logexp.proofs.logarithm.expo.Goals as goal
use Rattle.logexp.proofs.logarithm.expo.Goals.{After-field-x}

shape : (c : After-field-x) → Wide c.lead-g.result (count_leading_zeros 32 c.lead-g.result)
shape c = wide_lead c.args.b c.lead-g.result c.requires.0 c.lead-g.ensures

ranged : (c : After-field-x) → (1 ≤ c.field-x.result) × (c.field-x.result ≤ 254)
ranged c = subst (λ (x : ℕ). (1 ≤ x) × (x ≤ 254)) (sym c.field-x.ensures) (field_in c.args.b c.requires.1)

pub overflow_add-result : goal.overflow_add-result
overflow_add-result c = omega (arith, (ranged (goal.at.overflow_add-result c).After-field-x).1)

pub overflow_sub-result : goal.overflow_sub-result
overflow_sub-result c = omega (arith, (ranged (goal.at.overflow_sub-result c).After-field-x).0, (shape (goal.at.overflow_sub-result c).After-field-x).most)

pub returns : goal.returns
returns c = (
  ap (λ (x : ℕ). x + 30 - count_leading_zeros 32 c.lead-g.result) c.field-x.ensures ∙ ap (λ (g : ℕ). field_of c.args.b + 30 - count_leading_zeros 32 g) c.lead-g.ensures,
  omega (arith, (ranged (goal.at.returns c).After-field-x).1, (shape (goal.at.returns c).After-field-x).least),
)
