-- The correction of a spot's sigma. Definitions only.
-- A size is missing for one of two causes, asked in this order: the place where the spot stands is not trusted, or the move leads out of range. The first that applies is given.
use Rattle.std.specs.Prelude.{List, Bool, cond, not, ◌&&◌, ◌||◌, Float, Result, Ok, Err}
use Rattle.std.specs.Float.{binary32}
use Rattle.std.specs.Float.Ieee.{of_bits, lt, le, eq, ne, neg}
use Rattle.float.specs.Small.{finite, abs_of, clamp_of}
use Rattle.float.specs.Sqrt.{sqrt_of}
use Rattle.logexp.specs.Log.{log2_of}
use Rattle.logexp.specs.Exp.{exp_of}
use Rattle.float.specs.Num.{◌⊕◌, ◌⊖◌, ◌⊗◌, ◌⊘◌, f0, f1, f2}
use Rattle.tables.specs.Set.{good}
use Rattle.tables.specs.declared.Refusal.{Refusal}
use Rattle.tables.specs.declared.Set.{Set}
use Rattle.tables.specs.declared.Missing.TheVariants.{Polarity, Range}
use Rattle.tables.specs.declared.Refusal.TheVariants as refusal
use Rattle.fit.specs.Cubic.{◌at◌, coeffs_of, curvature_of}
use Rattle.fit.specs.Prims.{Prims, ours}
use Rattle.profile.specs.Profile.{statistic_by}
use Rattle.size.specs.declared.Geometry.{Geometry}
use Rattle.profile.specs.declared.Absence.{Absence}
use Rattle.tables.specs.declared.Missing.{Missing}

-- 0.5
abbrev pub f½ : Float
f½ = of_bits binary32 0x3f000000

-- 3
abbrev pub f3 : Float
f3 = of_bits binary32 0x40400000

-- 12
abbrev pub f12 : Float
f12 = of_bits binary32 0x41400000

-- the f32 natural logarithm of 2
abbrev pub ln2 : Float
ln2 = of_bits binary32 0x3f317218

-- the set's geometry numbers by name
unfoldable pub geometry_of : Set → Geometry
geometry_of s = record {
  origin = s.numbers at 0;
  epsilon = s.numbers at 1;
  tmin = s.numbers at 2;
  tmax = s.numbers at 3;
  sigmamin = s.numbers at 4;
  sigmamax = s.numbers at 5;
  beta = s.numbers at 6;
  boost = s.numbers at 7;
  lower = s.numbers at 8;
  upper = s.numbers at 9;
  cap = s.numbers at 10;
}

-- ---- how much of a step is taken

-- the compatibility numbers can't be used: not finite, lower not above 0, or upper not above lower
unfoldable pub no_blend : Geometry → Bool
no_blend g = not (finite g.lower) || le g.lower f0 || not (finite g.upper) || le g.upper g.lower

-- the boost up to the lower number, beta from the upper one on, a line between
unfoldable pub blend_of : Geometry → Float → Float
blend_of g statistic =
    cond
    (no_blend g)
    g.beta
    (cond
    (le statistic g.lower)
    g.boost
    (cond
    (le g.upper statistic)
    g.beta
    (g.boost ⊖ (g.boost ⊖ g.beta) ⊗ ((statistic ⊖ g.lower) ⊘ (g.upper ⊖ g.lower)))))

-- the same, beta where the statistic is absent
unfoldable pub beta_of : Geometry → Result Float Absence → Float
beta_of g (Ok statistic) = blend_of g statistic
beta_of g (Err why) = g.beta

-- the part of a step that the samples l allow
unfoldable pub blend_beta_by : Prims → Geometry → List Float → List Float → Float
blend_beta_by p g sigmas l = beta_of g (statistic_by p sigmas l)

-- the same by this build's max
abbrev pub blend_beta_of : Geometry → List Float → List Float → Float
blend_beta_of = blend_beta_by ours

-- ---- the two moves, in log2 of sigma

-- the part of the raw step, clamped to the cap
unfoldable pub bounded_of : Geometry → Float → Float → Float
bounded_of g beta raw = clamp_of (beta ⊗ raw) (neg g.cap) g.cap

-- where beta lies from the set's beta, 0, to its boost, 1
unfoldable pub weight_of : Geometry → Float → Float
weight_of g beta = clamp_of ((beta ⊖ g.beta) ⊘ (g.boost ⊖ g.beta)) f0 f1

-- the discriminant's root with the curvature's sign
unfoldable pub signed_root : Float → Float → Float
signed_root curvature discriminant = cond (lt curvature f0) (neg (sqrt_of discriminant)) (sqrt_of discriminant)

-- the move to the cubic's stationary point of the curvature's sign
unfoldable pub model_of : Float → Float → Float → Float
model_of derivative curvature discriminant = neg f2 ⊗ derivative ⊘ (curvature ⊕ signed_root curvature discriminant)

-- from the bounded move to the model's by the weight; the bounded move where that is not finite
unfoldable pub proposal_of : Float → Float → Float → Float
proposal_of weight model bounded =
    let proposal = bounded ⊕ weight ⊗ (model ⊖ bounded) in
    cond (finite proposal) proposal bounded

-- the move that the model proposes; the bounded move where it has no weight or no stationary point
unfoldable pub model_move_of : Geometry → Float → Float → Float → Float → Float → Float
model_move_of g beta a derivative curvature bounded =
    let weight = weight_of g beta in
    let discriminant = curvature ⊗ curvature ⊖ f12 ⊗ a ⊗ derivative in
    cond
    (eq weight f0 || not (finite discriminant) || le discriminant f0)
    bounded
    (proposal_of weight (model_of derivative curvature discriminant) bounded)

-- ---- the cubic k in log2 of sigma, at the place t

-- its first derivative
unfoldable pub derivative_of : List Float → Float → Float
derivative_of k t = (f3 ⊗ k at 0 ⊗ t ⊕ f2 ⊗ k at 1) ⊗ t ⊕ k at 2

-- a curvature of the polarity: strictly beyond epsilon, below 0 for a maximum and above 0 for a minimum
unfoldable pub right_polarity : Geometry → Float → Bool → Bool
right_polarity g curvature is_max = cond is_max (lt curvature (neg g.epsilon)) (lt g.epsilon curvature)

-- the place of a sigma
unfoldable pub place_of : Geometry → Float → Float
place_of g sigma = log2_of (sigma ⊘ g.origin)

-- the sigma of a place
unfoldable pub sigma_at : Geometry → Float → Float
sigma_at g t = g.origin ⊗ exp_of (t ⊗ ln2)

-- a place and its sigma are finite, the place in the fit's closed range and the sigma in the accepted one
unfoldable pub accepted : Geometry → Float → Float → Bool
accepted g t sigma =
    finite t && finite sigma && (le g.tmin t && le t g.tmax) && (le g.sigmamin sigma && le sigma g.sigmamax)

-- ---- the model's move against the bounded one

-- what the cubic's value gains from the place low to the place high
unfoldable pub gain_of : List Float → Float → Float → Float
gain_of k low high =
    let delta = high ⊖ low in
    delta ⊗ (derivative_of k low ⊕ delta ⊗ (curvature_of k low ⊗ f½ ⊕ k at 0 ⊗ delta))

-- the gain is finite, and none goes against the polarity
unfoldable pub gained : Float → Bool → Bool
gained gain is_max = finite gain && cond is_max (le f0 gain) (le gain f0)

-- the model's derivative is not above the bounded move's in size, both finite
unfoldable pub flatter : Float → Float → Bool
flatter model bounded = finite model && finite bounded && le (abs_of model) (abs_of bounded)

-- the model's place is taken before the bounded move's
unfoldable pub better : Geometry → List Float → Float → Float → Bool → Bool
better g k bounded model is_max =
    accepted g model (sigma_at g model)
    && flatter (derivative_of k model) (derivative_of k bounded)
    && right_polarity g (curvature_of k model) is_max
    && gained (gain_of k bounded model) is_max

-- the sigma of the move that is taken; sigma is the bounded move's
unfoldable pub chosen_of : Geometry → List Float → Float → Float → Float → Float → Bool → Float
chosen_of g k t bounded model sigma is_max =
    cond (ne model bounded && better g k (t ⊕ bounded) (t ⊕ model) is_max) (sigma_at g (t ⊕ model)) sigma

-- ---- the correction, a step for each cause of a refusal

-- the place, the derivative and the curvature are finite, and the curvature is of the polarity
unfoldable pub trusted : Geometry → Float → Float → Float → Bool → Bool
trusted g t derivative curvature is_max = finite t && finite derivative && finite curvature && right_polarity g curvature is_max

-- the move is finite, and the place and the sigma to which it leads are accepted
unfoldable pub in_range : Geometry → Float → Float → Float → Bool
in_range g move t sigma = finite move && accepted g t sigma

-- the sigma to which a trusted place t is moved
unfoldable pub moved_of : Geometry → List Float → Float → Float → Float → Float → Bool → Result Float Missing
moved_of g k beta t derivative curvature is_max =
    let move = bounded_of g beta (neg derivative ⊘ curvature) in
    let sigma = sigma_at g (t ⊕ move) in
    cond
    (in_range g move (t ⊕ move) sigma)
    (Ok (chosen_of g k t move (model_move_of g beta (k at 0) derivative curvature move) sigma is_max))
    (Err Range)

-- the corrected sigma of a spot with the samples l and the sigma that its fit gave
unfoldable pub corrected_by : Prims → Set → List Float → Float → Bool → Result Float Missing
corrected_by p s l anchor is_max =
    let g = geometry_of s in
    let k = coeffs_of s.geometry l in
    let t = place_of g anchor in
    let derivative = derivative_of k t in
    let curvature = curvature_of k t in
    cond
    (trusted g t derivative curvature is_max)
    (moved_of g k (blend_beta_by p g s.sigmas l) t derivative curvature is_max)
    (Err Polarity)

-- the same by this build's max
abbrev pub corrected_of : Set → List Float → Float → Bool → Result Float Missing
corrected_of = corrected_by ours

-- the corrected sigma, or the refusal with its cause
unfoldable pub answer_of : Result Float Missing → Result Float Refusal
answer_of (Ok sigma) = Ok sigma
answer_of (Err why) = Err (refusal.NoSize why)

-- Correction checks the set, then answers a corrected sigma or why there is none.
unfoldable pub correct_by : Prims → Set → List Float → Float → Bool → Result Float Refusal
correct_by p s l sigma is_max = cond (good s) (answer_of (corrected_by p s l sigma is_max)) (Err refusal.BadSet)

-- the same by this build's max
abbrev pub correct_of : Set → List Float → Float → Bool → Result Float Refusal
correct_of = correct_by ours
