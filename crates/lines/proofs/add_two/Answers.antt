-- `add_two` meets its contract. The loop's invariant: the first i floats are stored.
use native.Mathlib.Omega.{arith}
use mathlib.Core.Path.{◌≡◌}
use Rattle.grid.specs.Grid.{list_of}
use Rattle.grid.proofs.StoredLaws.{stored-none, stored_next, stored-rest, stored-length}
use Rattle.lines.specs.Lines.{more}
use Rattle.lines.proofs.add_two.Goals as goal

pub loop-i-init : goal.loop-i-init
unfolding list_of
loop-i-init c = (omega arith, stored-none)

pub bounds-out-at : goal.bounds-out-at
bounds-out-at c = omega (arith, stored-length c.loop-i.invariant.1)

pub bounds-out-at-in-loop-i : goal.bounds-out-at-in-loop-i
bounds-out-at-in-loop-i c = omega (arith, stored-length c.loop-i.invariant.1)

pub loop-i-preserved : goal.loop-i-preserved
unfolding more
loop-i-preserved c =
    let l = c.loop-i in
    (omega arith, stored_next _ l.invariant.1 (rw (stored-rest _ l.invariant.1 l.i (omega arith))))

pub shape_of-out : goal.shape_of-out
shape_of-out c = stored-length c.loop-i.invariant.1

pub returns : goal.returns
returns c = let end : c.loop-i.i ≡ c.args.n = omega arith in rw end at c.loop-i.invariant.1
