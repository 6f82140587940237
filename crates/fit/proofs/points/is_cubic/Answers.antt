use Rattle.fit.proofs.points.is_cubic.Goals as goal

pub returns : goal.returns
returns c = rw c.abs.ensures
