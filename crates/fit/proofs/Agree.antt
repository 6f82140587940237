-- The two envelopes are equal: at every cubic, all sigmas and any two end samples, and so at every table and any four samples. Assumes nothing.
use mathlib.Core.Path.{◌≡◌, refl, sym, ◌∙◌, ap}
use mathlib.Core.List.{List}
use mathlib.Core.Bool.{Bool, true, false, false≢true, cond, not, ◌&&◌, and-false}
use Prim.Native.Nat.{ℕ, ◌+◌, ◌*◌, ◌^◌, ◌<◌}
use native.Mathlib.Omega.{arith}
use lib.Dec.{ltb}
use borrow.Author.Tests.{ltb-true, lt-ltb, le-ltb}
use lib.Ieee.{Float, nan, inf, fin, lt, is_nan, up, down, of_bits}
use Rattle.float.specs.Small.{abs_of, max_of}
use Rattle.float.specs.Num.{f0, f1e_6}
use Rattle.fit.specs.Cubic.{◌at◌, coeffs_of, discriminant_of}
use Rattle.fit.specs.Envelope.{within, put_low, put_high, turn_of, first_of, second_of, turns_of, shape_by, shape_of, envelope_by, envelope_of}
use Rattle.fit.specs.Extrema.{lowered_of, raised_of, single_of, both_of, extrema_of}
use Rattle.fit.specs.declared.Envelope.{Envelope}

-- ---- signs

-- what is larger than 1e-6 is not zero
some : (n d : ℕ) → ltb (8796093 * 1 * d) (n * 2 ^ 43) ≡ true → 0 < n
some n d h = omega (arith, ltb-true (8796093 * 1 * d) (n * 2 ^ 43) h)

-- a number larger than 1e-6 in size is below zero exactly where it is not above it
pub signs : (x : Float) → lt f1e_6 (abs_of x) ≡ true → lt x f0 ≡ not (lt f0 x)
unfolding lt of_bits abs_of
signs nan h = absurd (false≢true h)
signs (inf true) h = refl
signs (inf false) h = refl
signs (fin true m e) h = let p = some (m * up e) (down e) h in lt-ltb 0 (m * up e * 1 + 0 * 1 * down e) (omega arith)
signs (fin false m e) h =
    let p = some (m * up e) (down e) h in
    le-ltb (m * up e * 1) (0 * 1 * down e) (omega arith) ∙ ap not (sym (lt-ltb (0 * 1 * down e) (m * up e * 1) (omega arith)))

-- a number above zero is the larger of the two
pub above_zero : (x : Float) → lt f0 x ≡ true → max_of x f0 ≡ x
unfolding max_of is_nan lt of_bits
above_zero nan h = absurd (false≢true h)
above_zero (inf true) h = absurd (false≢true h)
above_zero (inf false) h = refl
above_zero (fin true m e) h = absurd (false≢true h)
above_zero (fin false m e) h = rw (le-ltb (m * up e * 1) (0 * 1 * down e) (omega arith))

-- ---- tests

-- the streaming pass and the reference ask the same, in another order
reordered : (i v c p l : Bool) → (i && v && c && p && true && l) ≡ (i && c && p && v && l)
reordered false v c p l = refl
reordered true false false p l = refl
reordered true false true false l = refl
reordered true false true true l = refl
reordered true true false p l = refl
reordered true true true false l = refl
reordered true true true true l = refl

-- or in two steps
in_steps : {A : Type 0} (put : Bool → A) (i v c p l : Bool) → put (i && v && c && p && true && l) ≡ cond (i && c && v) (put (p && l)) (put false)
in_steps put false v c p l = refl
in_steps put true false false p l = refl
in_steps put true false true p l = refl
in_steps put true true false p l = refl
in_steps put true true true false l = refl
in_steps put true true true true l = refl

low_in_steps : (i v c p l : Bool) (x s : Float) (e : Envelope) → put_low (i && v && c && p && true && l) x s e ≡ cond (i && c && v) (put_low (p && l) x s e) e
unfolding put_low
low_in_steps i v c p l x s e = in_steps (λ (t : Bool). put_low t x s e) i v c p l

high_in_steps : (i v c p l : Bool) (x s : Float) (e : Envelope) → put_high (i && v && c && p && true && l) x s e ≡ cond (i && c && v) (put_high (p && l) x s e) e
unfolding put_high
high_in_steps i v c p l x s e = in_steps (λ (t : Bool). put_high t x s e) i v c p l

-- ---- one stationary point

-- one that is not ok changes nothing
pub turn_off : (k : List Float) (s : Float) (m : Bool) (e : Envelope) → turn_of k s false m e ≡ e
unfolding turn_of put_low put_high
turn_off k s m e = refl

module _ (k g : List Float) (s : Float) (e : Envelope) where
  turn_low : turn_of k s (within (g at 0) (g at 3) s) true e ≡ lowered_of k g s e
  unfolding turn_of lowered_of put_high
  turn_low = rw (and-false, reordered)

  turn_high : turn_of k s (within (g at 0) (g at 3) s) false e ≡ raised_of k g s e
  unfolding turn_of raised_of put_low
  turn_high = rw (and-false, reordered)

  turn_single : lt (k at 1) f0 ≡ not (lt f0 (k at 1)) → turn_of k s (within (g at 0) (g at 3) s) (lt f0 (k at 1)) e ≡ single_of k g s e
  unfolding turn_of single_of put_high put_low
  turn_single h = by (lt f0 (k at 1)) refl where
    by : (t : Bool) → lt f0 (k at 1) ≡ t → turn_of k s (within (g at 0) (g at 3) s) (lt f0 (k at 1)) e ≡ single_of k g s e
    by true p = rw (h, p) (rw (and-false, low_in_steps))
    by false p = rw (h, p) (rw (and-false, high_in_steps))

-- ---- the whole

pub envelopes_agree : (k g : List Float) (l0 l3 : Float) → shape_of k g l0 l3 ≡ extrema_of k g l0 l3
unfolding shape_by turns_of first_of second_of extrema_of both_of
envelopes_agree k g l0 l3 = by (lt f1e_6 (abs_of (k at 0))) refl (lt f0 (discriminant_of k)) refl (lt f1e_6 (abs_of (k at 1))) refl where
  by : (t : Bool) → lt f1e_6 (abs_of (k at 0)) ≡ t → (u : Bool) → lt f0 (discriminant_of k) ≡ u → (v : Bool) → lt f1e_6 (abs_of (k at 1)) ≡ v →
      shape_of k g l0 l3 ≡ extrema_of k g l0 l3
  by true p true q v r = rw (p, q, above_zero (discriminant_of k) q) (rw (turn_low, turn_high))
  by true p false q v r = rw (p, q) (simp turn_off)
  by false p u q true r = rw (p, r) (rw (turn_off) (turn_single k g _ _ (signs (k at 1) r)))
  by false p u q false r = rw (p, r) (simp turn_off)

-- the same of four samples, with the table t and the sigmas g of a set
pub envelopes_agree-on_samples : (t g l : List Float) → envelope_of t g l ≡ extrema_of (coeffs_of t l) g (l at 0) (l at 3)
unfolding envelope_by
envelopes_agree-on_samples t g l = envelopes_agree (coeffs_of t l) g (l at 0) (l at 3)
