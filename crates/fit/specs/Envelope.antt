-- The envelope of four samples as the streaming pass has it (stream.rs, `scale_envelope`): the least and the largest of the end samples and the
-- cubic's stationary points inside the sigmas, and the sigma of each, 0 where it is an end sample's. Definitions only.
use Rattle.std.specs.Prelude.{List, Bool, true, false, cond, not, ◌&&◌, ◌||◌, Float}
use Rattle.std.specs.Float.Ieee.{lt, le, neg}
use Rattle.float.specs.Small.{finite, abs_of}
use Rattle.float.specs.Sqrt.{sqrt_of}
use Rattle.float.specs.Num.{◌⊕◌, ◌⊖◌, ◌⊗◌, ◌⊘◌, f0, f2, f6, f1e_6}
use Rattle.fit.specs.Cubic.{◌at◌, coeffs_of, horner_of, discriminant_of, curvature_of}
use Rattle.fit.specs.Prims.{Prims, ours, end_samples, under_root}
use Rattle.fit.specs.declared.Envelope.{Envelope}

-- s lies in the closed range
unfoldable pub within : Float → Float → Float → Bool
within low high s = le low s && le s high

-- the envelope of the two end samples
unfoldable pub ends_by : Prims → Float → Float → Envelope
ends_by p l0 l3 = record { emin = p.min_p end_samples l0 l3; emax = p.max_p end_samples l0 l3; smin = f0; smax = f0 }

-- where the test holds, the envelope's least value is v, at s
unfoldable pub put_low : Bool → Float → Float → Envelope → Envelope
put_low true v s e = record { emin = v; emax = e.emax; smin = s; smax = e.smax }
put_low false v s e = e

-- where the test holds, its largest
unfoldable pub put_high : Bool → Float → Float → Envelope → Envelope
put_high true v s e = record { emin = e.emin; emax = v; smin = e.smin; smax = s }
put_high false v s e = e

-- the envelope with the stationary point s of k, a minimum or a maximum, where it is ok, finite, rightly curved and beyond what was there
unfoldable pub turn_of : List Float → Float → Bool → Bool → Envelope → Envelope
turn_of k s ok is_min e =
    let value = horner_of k s in
    let curvature = curvature_of k s in
    let matches = cond is_min (lt f0 curvature) (lt curvature f0) in
    let valid = ok && finite value && finite curvature && matches in
    put_high (valid && not is_min && lt e.emax value) value s (put_low (valid && is_min && lt value e.emin) value s e)

-- the first stationary point: a quadratic's only one, or the cubic's with the root of the discriminant added
unfoldable pub first_of : List Float → Bool → Float → Float
first_of k quadratic root = cond quadratic (neg (k at 2) ⊘ (f2 ⊗ k at 1)) ((neg (f2 ⊗ k at 1) ⊕ root) ⊘ (f6 ⊗ k at 0))

-- the second: the cubic's with the root taken off
unfoldable pub second_of : List Float → Float → Float
second_of k root = (neg (f2 ⊗ k at 1) ⊖ root) ⊘ (f6 ⊗ k at 0)

-- the envelope e with both stationary points, for the sigmas g and the root of the discriminant
unfoldable pub turns_of : List Float → List Float → Float → Envelope → Envelope
turns_of k g root e =
    let cubic = lt f1e_6 (abs_of (k at 0)) in
    let quadratic = not cubic && lt f1e_6 (abs_of (k at 1)) in
    let roots = cubic && lt f0 (discriminant_of k) in
    let first = first_of k quadratic root in
    let second = second_of k root in
    turn_of k second (roots && within (g at 0) (g at 3) second) false
    (turn_of k first ((roots || quadratic) && within (g at 0) (g at 3) first) (not quadratic || lt f0 (k at 1)) e)

-- of the cubic k, the sigmas g and the end samples
unfoldable pub shape_by : Prims → List Float → List Float → Float → Float → Envelope
shape_by p k g l0 l3 = turns_of k g (sqrt_of (p.max_p under_root (discriminant_of k) f0)) (ends_by p l0 l3)

-- of the samples l, with the table t
unfoldable pub envelope_by : Prims → List Float → List Float → List Float → Envelope
envelope_by p t g l = shape_by p (coeffs_of t l) g (l at 0) (l at 3)

abbrev pub shape_of : List Float → List Float → Float → Float → Envelope
shape_of = shape_by ours

abbrev pub envelope_of : List Float → List Float → List Float → Envelope
envelope_of = envelope_by ours
