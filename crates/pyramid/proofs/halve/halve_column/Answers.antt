-- `halve::halve_column` meets its contract. The loop's invariant: the first r floats of the column are stored.
use mathlib.Core.Path.{◌≡◌, refl}
use native.Mathlib.Omega.{arith}
use Rattle.grid.specs.Grid.{list_of}
use Rattle.grid.proofs.StoredLaws.{stored-none, stored_next, stored-length}
use Rattle.pyramid.proofs.halve.halve_column.Goals as goal

pub loop-r-init : goal.loop-r-init
unfolding list_of
loop-r-init c = (omega arith, stored-none)

pub bounds-out-at : goal.bounds-out-at
bounds-out-at c = omega (arith, stored-length c.loop-r.invariant.1)

pub loop-r-preserved : goal.loop-r-preserved
loop-r-preserved c = (omega arith, stored_next _ c.loop-r.invariant.1 refl)

pub shape_of-out : goal.shape_of-out
shape_of-out c = stored-length c.loop-r.invariant.1

pub returns : goal.returns
returns c = let end : c.loop-r.r ≡ c.args.n = omega arith in rw end at c.loop-r.invariant.1
