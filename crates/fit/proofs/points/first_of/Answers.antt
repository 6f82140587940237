use mathlib.Core.Path.{◌≡◌, refl}
use mathlib.Core.Bool.{Bool, true, false, cond}
use lib.Ieee.{Float}
use Rattle.float.specs.Num.{◌⊘◌}
use Rattle.fit.specs.Envelope.{first_of}
use Rattle.fit.proofs.points.first_of.Goals as goal

-- a quotient of choices is the choice of the quotients
over : (q : Bool) (x y z w : Float) → cond q x z ⊘ cond q y w ≡ cond q (x ⊘ y) (z ⊘ w)
over true x y z w = refl
over false x y z w = refl

pub returns : goal.returns
unfolding first_of
returns c = rw (c.pick-2.ensures, c.pick.ensures, over)
