-- `across::shared` meets its contract. The loop's invariant: both lines hold their passes by the taps up to t.
use mathlib.Core.Path.{◌≡◌}
use Prim.Native.Nat.{◌-◌, ◌≤◌, min}
use Rattle.blur.specs.Passes.{Holds, columns}
use Rattle.blur.proofs.across.shared.Given as goal

abbrev pub invariant-loop-t : goal.invariant-loop-t
invariant-loop-t l =
    (l.t ≤ l.least) × (l.least ≡ min l.j.radius l.k.radius) × Holds l.a l.rows (columns l.raw l.rows l.cols l.j.taps l.col l.t) × Holds l.b l.rows (columns l.raw l.rows l.cols l.k.taps l.col l.t)

abbrev pub decreases-loop-t : goal.decreases-loop-t
decreases-loop-t l = l.least - l.t
