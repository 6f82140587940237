-- `add_both` meets its contract. The loop's invariant: the first i floats of both lines are stored.
use native.Mathlib.Omega.{arith}
use mathlib.Core.Path.{◌≡◌, refl}
use lib.ListN.{length-set}
use Rattle.grid.specs.Grid.{list_of}
use Rattle.grid.proofs.StoredLaws.{stored-none, stored_next, stored-rest}
use Rattle.lines.specs.Lines.{more}
use Rattle.lines.proofs.add_both.Goals as goal

pub loop-i-init : goal.loop-i-init
unfolding list_of
loop-i-init c = (omega arith, refl, refl, stored-none, stored-none)

pub loop-i-preserved : goal.loop-i-preserved
unfolding more
loop-i-preserved c =
    let l = c.loop-i in (
      omega arith,
      simp length-set l.invariant.1,
      simp length-set l.invariant.2,
      stored_next _ l.invariant.3 (rw (stored-rest _ l.invariant.3 l.i (omega arith))),
      stored_next _ l.invariant.4 (rw (stored-rest _ l.invariant.4 l.i (omega arith))),
    )

pub returns : goal.returns
returns c =
    let l = c.loop-i in
    let end : l.i ≡ c.args.n = omega arith in
    (rw end at l.invariant.3, rw end at l.invariant.4)
