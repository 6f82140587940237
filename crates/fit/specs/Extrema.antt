-- The envelope as the reference has it (reference.rs, `polynomial_extrema`), of a cubic and the two end samples. Definitions only.
use Rattle.std.specs.Prelude.{List, cond, ◌&&◌, Float}
use Rattle.std.specs.Float.Ieee.{lt, neg}
use Rattle.float.specs.Small.{finite, abs_of}
use Rattle.float.specs.Sqrt.{sqrt_of}
use Rattle.float.specs.Num.{◌⊕◌, ◌⊖◌, ◌⊗◌, ◌⊘◌, f0, f2, f6, f1e_6}
use Rattle.fit.specs.Cubic.{◌at◌, horner_of, discriminant_of, curvature_of}
use Rattle.fit.specs.Prims.{ours}
use Rattle.fit.specs.Envelope.{within, ends_by, put_low, put_high}
use Rattle.fit.specs.declared.Envelope.{Envelope}

-- the envelope with the minimum s, where it counts
unfoldable pub lowered_of : List Float → List Float → Float → Envelope → Envelope
lowered_of k g s e =
    let v = horner_of k s in
    let c = curvature_of k s in
    put_low (within (g at 0) (g at 3) s && finite c && lt f0 c && finite v && lt v e.emin) v s e

-- the envelope with the maximum s, where it counts
unfoldable pub raised_of : List Float → List Float → Float → Envelope → Envelope
raised_of k g s e =
    let v = horner_of k s in
    let c = curvature_of k s in
    put_high (within (g at 0) (g at 3) s && finite c && lt c f0 && finite v && lt e.emax v) v s e

-- the envelope with the only stationary point s of a quadratic
unfoldable pub single_of : List Float → List Float → Float → Envelope → Envelope
single_of k g s e =
    let v = horner_of k s in
    let c = curvature_of k s in
    let low = put_low (lt f0 (k at 1) && lt f0 c && lt v e.emin) v s e in
    cond (within (g at 0) (g at 3) s && finite c && finite v) (put_high (lt (k at 1) f0 && lt c f0 && lt low.emax v) v s low) e

-- the envelope with the two stationary points of a cubic, where it has them
unfoldable pub both_of : List Float → List Float → Envelope → Envelope
both_of k g e =
    let ap = f6 ⊗ k at 0 in
    let bp = f2 ⊗ k at 1 in
    cond
    (lt f0 (discriminant_of k))
    (raised_of k g ((neg bp ⊖ sqrt_of (discriminant_of k)) ⊘ ap) (lowered_of k g ((neg bp ⊕ sqrt_of (discriminant_of k)) ⊘ ap) e))
    e

-- of the cubic k, the sigmas g and the end samples
unfoldable pub extrema_of : List Float → List Float → Float → Float → Envelope
extrema_of k g l0 l3 =
    let e = ends_by ours l0 l3 in
    cond
    (lt f1e_6 (abs_of (k at 0)))
    (both_of k g e)
    (cond (lt f1e_6 (abs_of (k at 1))) (single_of k g (neg (k at 2) ⊘ (f2 ⊗ k at 1)) e) e)
