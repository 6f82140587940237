-- `float::root::root_bits` meets its contract. Assumes nothing.
use mathlib.Core.Path.{sym, ap, ◌∙◌, subst}
use Prim.Native.Nat.{ℕ, ◌-◌, ◌*◌, ◌^◌, ◌≤◌, ◌<◌}
use native.Mathlib.Omega.{arith}
use Rattle.float.specs.Pattern.{lead_of}
use Rattle.float.specs.Sqrt.{root_pattern}
use Rattle.float.proofs.Patterns.{lead_in, field_in}
use Rattle.float.proofs.root.root_bits.Goals as goal
use Rattle.float.proofs.root.root_bits.Goals.{After-field}

lead_ranged : (c : After-field) → (0 < c.lead.result) × (c.lead.result < 2 ^ 24)
lead_ranged c = subst (λ (g : ℕ). (0 < g) × (g < 2 ^ 24)) (sym c.lead.ensures) (lead_in c.args.b c.requires.0)

field_ranged : (c : After-field) → (1 ≤ c.field.result) × (c.field.result ≤ 254)
field_ranged c = subst (λ (x : ℕ). (1 ≤ x) × (x ≤ 254)) (sym c.field.ensures) (field_in c.args.b c.requires.1)

pub overflow_sub-field : goal.overflow_sub-field
overflow_sub-field c = (field_ranged (goal.at.overflow_sub-field c).After-field).0

pub root_scaled-requires : goal.root_scaled-requires
root_scaled-requires c =
    let s = (goal.at.root_scaled-requires c).After-field in
    record { m_nonzero = lead_ranged s; k_bound = omega (arith, (field_ranged s).0, (field_ranged s).1) }

pub returns : goal.returns
returns c =
    c.root_scaled.ensures
    ∙ ap (λ (g : ℕ). root_pattern (g * 2 ^ (c.field.result - 1))) c.lead.ensures
    ∙ ap (λ (x : ℕ). root_pattern (lead_of c.args.b * 2 ^ (x - 1))) c.field.ensures
