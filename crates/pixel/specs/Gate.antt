-- A pixel's own gates, from its four samples. Definitions only.
use Rattle.std.specs.Prelude.{List, Bool, cond, ◌&&◌, Float}
use Rattle.std.specs.Float.Ieee.{lt, neg}
use Rattle.float.specs.Small.{finite, abs_of}
use Rattle.tables.specs.declared.Set.{Set}
use Rattle.tables.specs.declared.Thresholds.{Thresholds}
use Rattle.fit.specs.Cubic.{◌at◌, coeffs_of, curvature_of, bends_of}
use Rattle.fit.specs.Prims.{Prims, ours}
use Rattle.fit.specs.Envelope.{within, shape_by}
use Rattle.fit.specs.Owns.{owns_by}
use Rattle.fit.specs.declared.Envelope.{Envelope}

-- the sigma of a polarity's extreme
unfoldable pub sigma_of : Envelope → Bool → Float
sigma_of e is_max = cond is_max e.smax e.smin

-- the response there
unfoldable pub peak_of : Envelope → Bool → Float
peak_of e is_max = cond is_max e.emax e.emin

-- the peak is strictly beyond plus or minus the peak threshold
unfoldable pub strong_of : Thresholds → Float → Bool → Bool
strong_of th peak is_max = cond is_max (lt th.peak peak) (lt peak (neg th.peak))

-- the curvature is finite, of the right sign and strictly beyond the sigma threshold in size
unfoldable pub curved_of : Thresholds → List Float → Float → Bool → Bool
curved_of th k sigma is_max =
    let c = curvature_of k sigma in
    finite c && bends_of c is_max && lt th.sigma (abs_of c)

-- the gates of the extreme (sigma, peak) of the cubic k of the samples l
unfoldable pub gate_by : Prims → Thresholds → List Float → List Float → Float → Float → Bool → Bool
gate_by p th l k sigma peak is_max =
    within th.low th.high sigma && strong_of th peak is_max && curved_of th k sigma is_max && owns_by p l is_max

-- the gates of a pixel with the samples l
unfoldable pub own_gate_by : Prims → Set → Thresholds → List Float → Bool → Bool
own_gate_by p s th l is_max =
    let k = coeffs_of s.scale l in
    let e = shape_by p k s.sigmas (l at 0) (l at 3) in
    gate_by p th l k (sigma_of e is_max) (peak_of e is_max) is_max

abbrev pub own_gate_of : Set → Thresholds → List Float → Bool → Bool
own_gate_of = own_gate_by ours
