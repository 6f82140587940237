-- `pack::open_line` meets its contract. The loop's invariant: the first i entries are written.
use mathlib.Core.Path.{◌≡◌}
use mathlib.Core.Bool.{cond}
use Prim.Native.Nat.{◌+◌}
use lib.Dec.{leb}
use lib.ListN.{get_or}
use Rattle.columns.specs.Line.{Written}
use Rattle.rivals.proofs.pack.open_line.Given as goal

abbrev pub invariant-loop-i : goal.invariant-loop-i
invariant-loop-i l = Written 0 l.initial.keep l.keep 0 l.i (λ j x. x ≡ cond (leb 4 (get_or l.w (l.y + j + 1) 0)) 1 0)
