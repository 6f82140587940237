-- What is found on the way to a record, and differs at most in the signs of zeros. Definitions only.
use Rattle.std.specs.Prelude.{◌≡◌, Float, Option, Some, None}
use Rattle.float.specs.Num.{◌⊕◌}
use Rattle.fit.specs.Near.{Near}
use Rattle.fit.specs.declared.Envelope.{Envelope}
use Rattle.fit.specs.declared.Band.{Band}
use Rattle.refine.specs.declared.Spot.{Spot}

-- two envelopes: the values equal or both zeros, the sigmas equal
pub record EnvelopeNear (a b : Envelope) : Type 0 where
  pub emin : Near a.emin b.emin
  pub emax : Near a.emax b.emax
  pub smin : a.smin ≡ b.smin
  pub smax : a.smax ≡ b.smax

-- two bands: each end equal or both zeros
pub record BandNear (a b : Band) : Type 0 where
  pub low : Near a.low b.low
  pub high : Near a.high b.high

-- a sum with x does not show a zero's sign
abbrev pub Steady : Float → Type 0
Steady x = (y y' : Float) → Near y y' → x ⊕ y ≡ x ⊕ y'

-- two spots: each field equal, but the peaks and the displacements equal or both zeros
pub record SpotNear (a b : Spot) : Type 0 where
  pub x : a.x ≡ b.x
  pub y : a.y ≡ b.y
  pub sigma : a.sigma ≡ b.sigma
  pub peak : Near a.peak b.peak
  pub octave : a.octave ≡ b.octave
  pub index : a.index ≡ b.index
  pub max : a.max ≡ b.max
  pub dx : Near a.dx b.dx
  pub dy : Near a.dy b.dy

-- two answers of the refinement: both reject, or both accept such spots
pub data RefinedNear : Option Spot → Option Spot → Type 0 where
  rejected : RefinedNear None None
  accepted : {a b : Spot} → SpotNear a b → RefinedNear (Some a) (Some b)
