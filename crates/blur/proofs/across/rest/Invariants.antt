-- `across::rest` meets its contract. The loop's invariant: the line holds the pass by the taps up to s.
use Prim.Native.Nat.{◌-◌, ◌≤◌}
use Rattle.blur.specs.Passes.{Holds, columns}
use Rattle.blur.proofs.across.rest.Given as goal

abbrev pub invariant-loop-s : goal.invariant-loop-s
invariant-loop-s l = (l.s ≤ l.k.radius) × Holds l.line l.rows (columns l.raw l.rows l.cols l.k.taps l.col l.s)

abbrev pub decreases-loop-s : goal.decreases-loop-s
decreases-loop-s l = l.k.radius - l.s
