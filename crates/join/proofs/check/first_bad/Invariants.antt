-- `check::first_bad` meets its contract. What is left to search gives the whole search's answer.
use mathlib.Core.Path.{◌≡◌}
use Prim.Native.Nat.{◌-◌, ◌≤◌}
use Rattle.join.specs.Join.{first_bad}
use Rattle.join.proofs.check.first_bad.Given as goal

abbrev pub invariant-loop-i : goal.invariant-loop-i
invariant-loop-i g l = (l.i ≤ l.count) × (first_bad g.F.Form.is_old l.rows l.cols l.list l.count 0 ≡ first_bad g.F.Form.is_old l.rows l.cols l.list (l.count - l.i) l.i)

abbrev pub decreases-loop-i : goal.decreases-loop-i
decreases-loop-i g l = l.count - l.i
