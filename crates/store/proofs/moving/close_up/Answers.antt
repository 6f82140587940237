-- `moving::close_up` meets its contract.
use native.Mathlib.Omega.{arith}
use mathlib.Core.Path.{◌∙◌}
use Rattle.store.proofs.MovingLaws.{packed_start, packed-next, packed_end}
use Rattle.store.proofs.moving.close_up.Goals as goal

pub loop-i-init : goal.loop-i-init
loop-i-init c = (omega arith, packed_start _)

pub move_down-n-requires : goal.move_down-n-requires
move_down-n-requires c =
    let l = c.loop-i in
    record { whole = rw l.invariant.1.long c.requires; i_in_bounds = omega (arith, l.invariant.1.long); n_le_i = l.invariant.1.low }

pub loop-i-preserved : goal.loop-i-preserved
loop-i-preserved c =
    let l = c.loop-i in
    let m = c.move_down-n.ensures in
    (omega arith, rw (m.0, m.1) (packed-next l.invariant.1 c.requires (omega arith)))

pub free_from-requires : goal.free_from-requires
free_from-requires c = rw c.loop-i.invariant.1.long c.requires

pub shape_of-b : goal.shape_of-b
shape_of-b c = omega (arith, c.free_from.auto.b, c.loop-i.invariant.1.long)

pub returns : goal.returns
returns c =
    let l = c.loop-i in
    let e = packed_end l.invariant.1 (omega arith) in
    (e.0, c.free_from.ensures ∙ e.1)
