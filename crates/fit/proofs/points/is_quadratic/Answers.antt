use Rattle.fit.proofs.points.is_quadratic.Goals as goal

pub returns : goal.returns
returns c = rw c.abs.ensures
