-- `pixels::met` meets its contract.
use mathlib.Core.Path.{sym, ◌∙◌}
use Rattle.pixel.specs.Listed.{listed}
use Rattle.follow.proofs.WalkLaws.{walk_none, walk_one}
use Rattle.partner.proofs.pixels.met.Goals as goal

pub returns-in-Some : goal.returns-in-Some
unfolding listed
returns-in-Some c = rw c.in-Some.is (c.step.ensures ∙ sym (walk_one _ _ _))

pub returns-in-None : goal.returns-in-None
unfolding listed
returns-in-None c = rw c.in-None.is (sym (walk_none _ _))
