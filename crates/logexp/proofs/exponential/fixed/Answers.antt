-- `logexp::exponential::fixed` meets its contract. Assumes nothing.
use mathlib.Core.Path.{◌≡◌, ◌∙◌}
use Prim.Native.Nat.{ℕ, ◌+◌, ◌-◌, ◌/◌, ◌%◌, ◌^◌, ◌≤◌}
use native.Mathlib.Omega.{arith}
use borrow.Author.Tests.{lt-ltb, le-ltb}
use lib.Pow.{shl_exact}
use Rattle.float.specs.Pattern.{lead_of}
use Rattle.logexp.specs.Exp.{fixed_of}
use Rattle.logexp.proofs.exponential.fixed.Goals as goal

-- from the field 96 on there is a leading digit
led : (m : ℕ) → 96 ≤ m / 2 ^ 23 → lead_of m ≡ 0x80_0000 + m % 0x80_0000
led m h = rw (le-ltb m 0x80_0000 (omega arith))

pub returns-then-k-lt96 : goal.returns-then-k-lt96
unfolding fixed_of
returns-then-k-lt96 c = simp (lt-ltb _ _ c.if-k-lt96.true)

pub returns-then-k-lt120 : goal.returns-then-k-lt120
unfolding fixed_of
returns-then-k-lt120 c =
    simp (le-ltb _ _ c.if-k-lt96.false, lt-ltb _ _ c.if-k-lt120.true, c.to_u64-g.ensures ∙ c.lead.ensures ∙ led c.args.m c.if-k-lt96.false)

pub returns-else-k-lt120 : goal.returns-else-k-lt120
unfolding fixed_of
returns-else-k-lt120 c =
    let m = c.args.m in
    simp (le-ltb _ _ c.if-k-lt96.false, le-ltb _ _ c.if-k-lt120.false, c.to_u64-g.ensures ∙ c.lead.ensures ∙ led m c.if-k-lt96.false) (shl_exact 24 (m / 2 ^ 23 - 120) 64 (omega arith) (omega arith))
