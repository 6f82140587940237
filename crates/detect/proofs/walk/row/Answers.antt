-- `walk::row` meets its contract. The loop's invariant: what the first k judged pixels of the row list is taken.
use native.Mathlib.Omega.{arith}
use native.Mathlib.Numerals.{add-one}
use mathlib.Core.Path.{sym, ◌∙◌}
use Prim.Native.Nat.{◌+◌, ◌%◌}
use Rattle.samples.specs.Map.{maps_in}
use Rattle.marks.proofs.MarksLaws.{mark-none}
use Rattle.sweep.proofs.PassLaws.{unmarked-nothing}
use Rattle.detect.specs.Due.{row_due}
use Rattle.detect.proofs.DueLaws.{nothing-listed, row_due-short}
use Rattle.detect.proofs.StopLaws.{row_stays}
use Rattle.detect.proofs.walk.row.Goals as goal

pub loop-k-init : goal.loop-k-init
unfolding row_due
loop-k-init g c = (omega arith, g.T.Taker.laws.none _)

pub returns-then-is_full : goal.returns-then-is_full
returns-then-is_full g c =
    let l = c.loop-k in
    row_stays g.T.Taker.laws _ _ (sym c.is_full.ensures ∙ c.if-is_full.true) (maps_in c.args.map.now) _ _ _ l.invariant.0 l.invariant.1

pub pixel-requires-clause-col_value : goal.pixel-requires-clause-col_value
pixel-requires-clause-col_value g c =
    let a = c.args in
    let p = c.requires in
    let l = c.loop-k in
    let m = maps_in a.map.now in
    λ none. nothing-listed m (a.j + 4) (l.k + 4) (unmarked-nothing m a.j l.k p.j_bound (omega arith) p.block (mark-none a.marks.now (a.j % 254) (l.k + 4) (sym c.is_marked.ensures ∙ none)))

pub pixel-requires-clause-room : goal.pixel-requires-clause-room
pixel-requires-clause-room g c =
    let a = c.args in
    let l = c.loop-k in
    omega (arith, a.map.now.sized.cols-most, c.requires.room, g.T.Taker.laws.room_left _ _ _ l.invariant.1, row_due-short (maps_in a.map.now) (a.j + 4) l.k)

pub loop-k-preserved : goal.loop-k-preserved
unfolding row_due
loop-k-preserved g c = (omega arith, rw add-one (g.T.Taker.laws.parts _ _ _ _ _ c.loop-k.invariant.1 c.pixel.ensures))
