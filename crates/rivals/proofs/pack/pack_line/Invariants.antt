-- `pack::pack_line` meets its contract. The loop's invariant: the codes of the first i pixels are packed.
use Rattle.rivals.specs.List.{Packed}
use Rattle.rivals.proofs.pack.pack_line.Given as goal

abbrev pub invariant-loop-i : goal.invariant-loop-i
invariant-loop-i l = Packed l.i l.y l.w l.codes l.m
