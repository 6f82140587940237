-- `copy` meets its contract. The loop's invariant: the first i floats are stored.
use lib.Ieee.{nan}
use Rattle.ring.proofs.RingLaws.{stored_more}
use mathlib.Core.Path.{refl, ap, ◌∙◌}
use native.Mathlib.Omega.{arith}
use lib.ListN.{length, take}
use lib.Seq.{length-sets, take_all}
use Rattle.ring.proofs.copy.Goals as goal

pub loop-i-init : goal.loop-i-init
loop-i-init c = (omega arith, refl)

pub bounds-ring-from : goal.bounds-ring-from
bounds-ring-from c = let a = c.args in let l = c.loop-i in omega (arith, ap length l.invariant.1 ∙ length-sets a.ring.now a.from (take l.i a.column.now))

pub loop-i-preserved : goal.loop-i-preserved
loop-i-preserved c = let a = c.args in
    let l = c.loop-i in
    (omega arith, rw l.invariant.1 (stored_more a.ring.now a.column.now a.from l.i nan (omega arith)))

pub shape_of-ring : goal.shape_of-ring
shape_of-ring c = let a = c.args in let l = c.loop-i in ap length l.invariant.1 ∙ length-sets a.ring.now a.from (take l.i a.column.now)

pub returns : goal.returns
returns c = let a = c.args in let l = c.loop-i in l.invariant.1 ∙ rw (take_all l.i a.column.now (omega arith))
