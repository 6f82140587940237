-- `add_four` meets its contract. The loop's invariant: the first i floats are stored.
use native.Mathlib.Omega.{arith}
use mathlib.Core.Path.{◌≡◌, refl}
use lib.ListN.{length-set}
use Rattle.grid.specs.Grid.{list_of}
use Rattle.grid.proofs.StoredLaws.{stored-none, stored_next, stored-rest, stored-length}
use Rattle.lines.specs.Lines.{more}
use Rattle.lines.proofs.add_four.Goals as goal

pub loop-i-init : goal.loop-i-init
unfolding list_of
loop-i-init c = (omega arith, refl, stored-none)

pub loop-i-preserved : goal.loop-i-preserved
unfolding more
loop-i-preserved c =
    let l = c.loop-i in
    (omega arith, simp length-set l.invariant.1, stored_next _ l.invariant.2 (rw (stored-rest _ l.invariant.2 l.i (omega arith))))

pub shape_of-out : goal.shape_of-out
shape_of-out c = stored-length c.loop-i.invariant.2

pub returns : goal.returns
returns c = let end : c.loop-i.i ≡ c.args.n = omega arith in rw end at c.loop-i.invariant.2
