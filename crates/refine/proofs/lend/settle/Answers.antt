-- `lend::settle` meets its contract.
use mathlib.Core.Path.{sym, ◌∙◌, ap}
use Rattle.refine.specs.Lend.{left_of, lent_of}
use Rattle.refine.proofs.lend.settle.Goals as goal

pub returns-in-Some : goal.returns-in-Some
unfolding lent_of left_of
returns-in-Some c = ap (left_of c.args.spot) (sym c.in-Some.is ∙ c.refine_keypoint_2d.ensures)

pub returns-in-None : goal.returns-in-None
unfolding lent_of left_of
returns-in-None c = ap (left_of c.args.spot) (sym c.in-None.is ∙ c.refine_keypoint_2d.ensures)
