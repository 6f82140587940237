-- `moving::close_up` meets its contract.
use Prim.Native.Nat.{◌/◌, ◌≤◌}
use lib.ListN.{length}
use Rattle.record.specs.Layout.{spot_width}
use Rattle.store.proofs.MovingLaws.{Packed}
use Rattle.store.proofs.moving.close_up.Given as goal

abbrev pub invariant-loop-i : goal.invariant-loop-i
invariant-loop-i l = (l.i ≤ length l.initial.b / spot_width) × Packed l.initial.b l.b l.i l.n
