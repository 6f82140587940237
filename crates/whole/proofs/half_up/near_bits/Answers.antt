-- `whole::half_up::near_bits` meets its contract. Assumes nothing.
use mathlib.Core.Path.{◌≡◌, sym, ap, ◌∙◌, subst}
use Prim.Native.Nat.{ℕ, ◌+◌, ◌/◌, ◌^◌, ◌≤◌, ◌<◌}
use native.Mathlib.Omega.{arith}
use Rattle.whole.proofs.Patterns.{over_bits, low_bits, high_bits, mid_bits, field_between, cut_lt, shifted, machine}
use Rattle.whole.proofs.half_up.near_bits.Goals as goal
use Rattle.whole.proofs.half_up.near_bits.Goals.{After-field, After-near}

field_is : (c : After-field) → (126 ≤ c.field.result) × (c.field.result ≤ 158)
field_is c =
    subst (λ (x : ℕ). (126 ≤ x) × (x ≤ 158)) (sym c.field.ensures) (field_between c.args.b c.if-b-lt1056964608.false c.if-b-ge1333788672.false)

near-is : (c : After-near) → c.near.result ≡ (shifted c.args.b + 2 ^ 23) / 2 ^ 24
near-is c =
    c.near.ensures
    ∙ ap (λ (v : ℕ). (v + 2 ^ 23) / 2 ^ 24)
    (machine c.args.b c.to_u64.result c.field.result c.if-b-lt1056964608.false c.if-b-ge1333788672.false (c.to_u64.ensures ∙ c.lead.ensures) c.field.ensures)

pub returns-then-b-gt2139095040 : goal.returns-then-b-gt2139095040
returns-then-b-gt2139095040 c = sym (over_bits _ c.if-b-gt2139095040.true)

pub returns-then-b-lt1056964608 : goal.returns-then-b-lt1056964608
returns-then-b-lt1056964608 c = sym (low_bits _ c.if-b-lt1056964608.true)

pub returns-then-b-ge1333788672 : goal.returns-then-b-ge1333788672
returns-then-b-ge1333788672 c = sym (high_bits _ c.if-b-ge1333788672.true c.if-b-gt2139095040.false)

pub overflow_sub-field : goal.overflow_sub-field
overflow_sub-field c = (field_is (goal.at.overflow_sub-field c).After-field).0

pub overflow_shl-to_u64 : goal.overflow_shl-to_u64
overflow_shl-to_u64 c = omega (arith, (field_is (goal.at.overflow_shl-to_u64 c).After-field).1)

pub overflow_cast-result : goal.overflow_cast-result
overflow_cast-result c =
    let small : c.near.result < 2 ^ 32 = subst (λ (n : ℕ). n < 2 ^ 32) (sym (near-is (goal.at.overflow_cast-result c).After-near)) (cut_lt c.args.b c.if-b-lt1056964608.false c.if-b-ge1333788672.false) in
    omega arith

pub returns : goal.returns
returns c = near-is (goal.at.returns c).After-near ∙ mid_bits c.args.b c.if-b-lt1056964608.false c.if-b-ge1333788672.false
