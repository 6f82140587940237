-- `put_lines` meets its contract. The loop's invariant: the first i lines stand there.
use mathlib.Core.Path.{◌≡◌}
use Prim.Native.Nat.{◌≤◌, ◌+◌, ◌*◌}
use Rattle.text.specs.Text.{line_width, lines_in, Wrote}
use Rattle.text.proofs.put_lines.Given as goal

abbrev pub invariant-loop-i : goal.invariant-loop-i
invariant-loop-i l = (l.i ≤ l.n) × (l.next ≡ l.at + line_width * l.i) × Wrote l.initial.out l.out l.at l.next (lines_in l.i l.records)
