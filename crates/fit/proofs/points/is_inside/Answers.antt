use Rattle.fit.proofs.points.is_inside.Goals as goal

pub returns : goal.returns
returns c = c.is_within.ensures
