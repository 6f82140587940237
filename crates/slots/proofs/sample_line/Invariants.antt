-- `sample_line` meets its contract. The loop's invariant: the first i samples are written.
use mathlib.Core.Path.{◌≡◌}
use Prim.Native.Nat.{◌+◌, ◌≤◌, ◌-◌}
use lib.Ieee.{nan}
use Rattle.columns.specs.Line.{Written}
use Rattle.columns.specs.Sample.{stencil_at}
use Rattle.slots.proofs.sample_line.Given as goal

abbrev pub invariant-loop-i : goal.invariant-loop-i
invariant-loop-i l = (l.i ≤ l.n) × Written nan l.initial.s l.s 0 l.i (λ i x. x ≡ stencil_at l.l (l.left + i) (l.mid + i) (l.right + i) l.square)

abbrev pub decreases-loop-i : goal.decreases-loop-i
decreases-loop-i l = l.n - l.i
