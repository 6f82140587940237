-- `float::root::sqrt` meets its contract. Assumes nothing.
use mathlib.Core.Path.{◌≡◌, sym, ap, ◌∙◌, subst}
use Prim.Native.Nat.{ℕ, ◌<◌}
use native.Mathlib.Nat.{le_of_lt}
use mathlib.Core.Bool.{false}
use lib.Dec.{T}
use lib.Ieee.{Float, nan, inf, binary32, of_bits, to_bits}
use lib.Ieee.Compare.{differs_from_itself}
use lib.Ieee.Positive.{positive}
use Rattle.float.specs.Sqrt.{sqrt_of}
use Rattle.float.proofs.Bools.{says}
use Rattle.float.proofs.Floats.{inf-is, nan_is, not-nan, is-inf, is_positive}
use Rattle.float.proofs.Patterns.{not-nan_pattern, positive_bits}
use Rattle.float.proofs.Scaled.{pattern_lt}
use Rattle.float.proofs.SqrtClaims.{sqrt-nan, sqrt_zero, sqrt_infinity, sqrt_negative, sqrt_steps}
use Rattle.float.proofs.root.sqrt.Goals as goal
use Rattle.float.proofs.root.sqrt.Goals.{Else-x-4}

-- what is its own root
own : (x y : Float) → x ≡ y → sqrt_of y ≡ y → x ≡ sqrt_of x
own x y e f = e ∙ sym f ∙ ap sqrt_of (sym e)

plus : (c : Else-x-4) → T (positive c.args.x)
plus c = is_positive c.args.x c.if-x.false c.if-x-3.false c.if-x-2.false (rw inf-is at c.if-x-4.false)

placed : (c : Else-x-4) → (0 < to_bits binary32 c.args.x) × (to_bits binary32 c.args.x < 0x7f80_0000)
placed c = positive_bits c.args.x (subst T (sym c.well_formed.0.1) tt) (plus c)

pub returns-then-x : goal.returns-then-x
returns-then-x c = own c.args.x nan (differs_from_itself c.args.x (says _ c.if-x.true)) sqrt-nan

pub returns-then-x-2 : goal.returns-then-x-2
returns-then-x-2 c = sym (sqrt_zero c.args.x (says _ c.if-x-2.true))

pub returns-then-x-3 : goal.returns-then-x-3
returns-then-x-3 c = nan_is ∙ sym (sqrt_negative c.args.x (says _ c.if-x-3.true))

pub returns-then-x-4 : goal.returns-then-x-4
returns-then-x-4 c = let x = c.args.x in own x (inf false) (is-inf x (rw inf-is at c.if-x-4.true)) sqrt_infinity

pub float_to_bits-x : goal.float_to_bits-x
float_to_bits-x c = not-nan c.args.x c.if-x.false

pub root_bits-requires : goal.root_bits-requires
root_bits-requires c = placed (goal.at.root_bits-requires c).Else-x-4

pub float_from_bits-result : goal.float_from_bits-result
float_from_bits-result c =
    let b = to_bits binary32 c.args.x in
    let l = placed (goal.at.float_from_bits-result c).Else-x-4 in
    not-nan_pattern c.root_bits.result (le_of_lt (subst (λ (n : ℕ). n < 0x7f80_0000) (sym c.root_bits.ensures) (pattern_lt b l.0 l.1)))

pub returns : goal.returns
returns c = ap (of_bits binary32) c.root_bits.ensures ∙ sqrt_steps c.args.x (subst T (sym c.well_formed.0.1) tt) (plus (goal.at.returns c).Else-x-4)
