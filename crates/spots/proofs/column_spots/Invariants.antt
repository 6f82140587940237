-- `column_spots` meets its contract. The loop's invariant: what the first i judged pixels list is laid.
use Rattle.record.specs.Layout.{Laid}
use Rattle.ring.specs.Given.{column_in}
use Rattle.spots.proofs.column_spots.Given as goal

abbrev pub invariant-loop-i : goal.invariant-loop-i
invariant-loop-i l = Laid l.initial.out l.out 0 l.m (column_in l.column l.i)
