-- `ends::accepts` meets its contract.
use mathlib.Core.Path.{◌≡◌, refl, ◌∙◌, ap}
use Rattle.std.specs.Prelude.{Option, Some, None, is_some}
use Rattle.refine.specs.declared.Spot.{Spot}
use Rattle.rivals.specs.Ends.{accepted_of}
use Rattle.rivals.proofs.ends.accepts.Goals as goal

some-accepted : (r : Option Spot) → is_some r ≡ accepted_of r
unfolding accepted_of
some-accepted (Some spot) = refl
some-accepted None = refl

pub returns : goal.returns
returns c = c.is_some.ensures ∙ some-accepted c.refine_keypoint_2d.result ∙ ap accepted_of c.refine_keypoint_2d.ensures
