-- `put::put_all` meets its contract. What is left to store gives the whole buffer.
use Prim.Native.Nat.{◌-◌, ◌*◌, ◌≤◌}
use mathlib.Core.Path.{◌≡◌}
use lib.ListN.{length}
use lib.Seq.{sets}
use Rattle.join.specs.Forms.{sized_width_of}
use Rattle.join.specs.Join.{records_from, sized_all}
use Rattle.join.proofs.put.put_all.Given as goal

abbrev pub invariant-loop-i : goal.invariant-loop-i
invariant-loop-i g l =
    (l.i ≤ l.count)
    × ((length l.out ≡ length l.initial.out)
    × (sets l.initial.out 0 (sized_all g.F.Form.is_old l.set (records_from g.F.Form.is_old l.list l.count 0)) ≡ sets l.out (l.i * sized_width_of g.F.Form.is_old) (sized_all g.F.Form.is_old l.set (records_from g.F.Form.is_old l.list (l.count - l.i) l.i))))

abbrev pub decreases-loop-i : goal.decreases-loop-i
decreases-loop-i g l = l.count - l.i
