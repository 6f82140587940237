-- `put_line` meets its contract. The loop's invariant: the hex digits of the first bytes stand there.
use mathlib.Core.Path.{◌≡◌}
use Prim.Native.Nat.{◌+◌, ◌*◌}
use lib.ListN.{take}
use Rattle.text.specs.Text.{hex_of, Wrote}
use Rattle.text.proofs.put_line.Given as goal

abbrev pub invariant-loop-byte : goal.invariant-loop-byte
invariant-loop-byte l = (l.next ≡ l.at + 2 * l.byte-index) × Wrote l.initial.out l.out l.at l.next (hex_of (take l.byte-index l.byte-items))
