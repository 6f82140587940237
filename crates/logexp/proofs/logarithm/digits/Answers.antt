-- `logexp::logarithm::digits` meets its contract: after i turns y and f are what the definition's i steps give. Assumes nothing.
use mathlib.Core.Path.{◌≡◌, refl, sym, ap, ◌∙◌, subst}
use Prim.Native.Nat.{ℕ, ◌+◌, ◌*◌, ◌/◌, ◌^◌, ◌≤◌, ◌<◌}
use native.Mathlib.Nat.{lt_of_lt_of_le}
use native.Mathlib.Numerals.{add-one}
use native.Mathlib.Omega.{arith}
use lib.Pow.{pow_mono}
use Rattle.logexp.specs.Log.{next, squared, digits_of}
use Rattle.logexp.proofs.Steps.{sq_lt, top_digit, squared_in, digits_lt}
use Rattle.logexp.proofs.logarithm.digits.Goals as goal

-- one turn, on the definitions
turn : (w y f i : ℕ) → 2 ^ 31 ≤ w → w < 2 ^ 32 → i < 21 → y ≡ squared i w → f ≡ digits_of i w
    → (i + 1 ≤ 21) × (next y ≡ squared (i + 1) w) × (2 * f + y * y / 2 ^ 63 ≡ digits_of (i + 1) w) × (next y < 2 ^ 32) × (2 * f + y * y / 2 ^ 63 < 2 ^ 21)
unfolding squared digits_of
turn w y f i lo hi h p q =
    let ny : next y ≡ squared (i + 1) w = ap next p ∙ ap (λ (k : ℕ). squared k w) (sym (add-one i)) in
    let nf : 2 * f + y * y / 2 ^ 63 ≡ digits_of (i + 1) w =
    ap (λ (a : ℕ). 2 * a + y * y / 2 ^ 63) q ∙ ap (λ (a : ℕ). 2 * digits_of i w + a * a / 2 ^ 63) p ∙ ap (λ (k : ℕ). digits_of k w) (sym (add-one i)) in
    let le : i + 1 ≤ 21 = omega arith in (
      le,
      ny,
      nf,
      subst (λ (a : ℕ). a < 2 ^ 32) (sym ny) (squared_in w lo hi (i + 1)).1,
      subst (λ (a : ℕ). a < 2 ^ 21) (sym nf) (lt_of_lt_of_le (digits_lt w lo hi (i + 1)) (pow_mono le)),
    )

pub loop-init : goal.loop-init
unfolding squared digits_of
loop-init c = (omega arith, refl, refl, omega arith, omega arith)

pub overflow_mul-s : goal.overflow_mul-s
overflow_mul-s c = record { fits = sq_lt c.loop.y c.loop.invariant.3 }

pub overflow_add-y : goal.overflow_add-y
overflow_add-y c = omega (arith, top_digit c.loop.y c.loop.invariant.3)

pub overflow_shr-y : goal.overflow_shr-y
overflow_shr-y c = omega (arith, top_digit c.loop.y c.loop.invariant.3)

pub overflow_add-f : goal.overflow_add-f
overflow_add-f c = omega (arith, top_digit c.loop.y c.loop.invariant.3)

pub loop-preserved : goal.loop-preserved
loop-preserved c =
    let l = c.loop in
    let p = c.requires in
    turn c.args.w l.y l.f l.counter p.0 p.1 c.loop-test.true l.invariant.1 l.invariant.2

pub returns : goal.returns
returns c =
    let l = c.loop in
    let e : l.counter ≡ 21 = omega arith in
    (l.invariant.2 ∙ ap (λ (k : ℕ). digits_of k c.args.w) e, l.invariant.4)
