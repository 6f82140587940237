-- `taken` meets its contract: where the records fit they are laid, and the columns stored; where they do not nothing is written.
use native.Mathlib.Omega.{arith}
use Rattle.record.proofs.LayoutLaws.{laid-length}
use Rattle.samples.specs.Four.{four_of}
use Rattle.ring.proofs.RingLaws.{slot-room}
use Rattle.feed.proofs.FeedLaws.{output_is}
use borrow.Author.Rules.{rules}
use Rattle.feed.proofs.taken.Goals as goal

pub invariant_of-column : goal.invariant_of-column
invariant_of-column c = let p = c.requires in record { lent = p.lent; small = (p.cols_bound.0, omega (arith, p.cols_bound.0, p.cols_bound.1)) }

pub is_roomy-fits-requires : goal.is_roomy-fits-requires
is_roomy-fits-requires c = record { n_value = c.height-n.ensures; ruled = c.mark_column.ensures }

pub lay_spots-m-requires : goal.lay_spots-m-requires
lay_spots-m-requires c = record { n_value = c.height-n.ensures; ruled = c.mark_column.ensures }

pub overflow_mul-slot : goal.overflow_mul-slot
overflow_mul-slot c =
    let a = c.args in
    omega (arith, slot-room a.s.now.rows a.s.now.position, c.requires.lent.rows-most)

pub store-requires : goal.store-requires
store-requires c =
    let a = c.args in
    let p = c.requires in
    omega (arith, slot-room a.s.now.rows a.s.now.position, p.lent.roomy.l0, p.lent.long.l0)

pub store-requires-2 : goal.store-requires-2
store-requires-2 c =
    let a = c.args in
    let p = c.requires in
    omega (arith, slot-room a.s.now.rows a.s.now.position, p.lent.roomy.l1, p.lent.long.l1)

pub store-requires-3 : goal.store-requires-3
store-requires-3 c =
    let a = c.args in
    let p = c.requires in
    omega (arith, slot-room a.s.now.rows a.s.now.position, p.lent.roomy.l2, p.lent.long.l2)

pub store-requires-4 : goal.store-requires-4
store-requires-4 c =
    let a = c.args in
    let p = c.requires in
    omega (arith, slot-room a.s.now.rows a.s.now.position, p.lent.roomy.l3, p.lent.long.l3)

pub advance-requires : goal.advance-requires
advance-requires c = let p = c.requires in omega (arith, p.cols_bound.0, p.cols_bound.1)

pub shape_of-r0 : goal.shape_of-r0
shape_of-r0 c = search (rules, c.store.auto)

pub shape_of-r1 : goal.shape_of-r1
shape_of-r1 c = search (rules, c.store-2.auto)

pub shape_of-r2 : goal.shape_of-r2
shape_of-r2 c = search (rules, c.store-3.auto)

pub shape_of-r3 : goal.shape_of-r3
shape_of-r3 c = search (rules, c.store-4.auto)

pub shape_of-out : goal.shape_of-out
shape_of-out c = laid-length c.lay_spots-m.ensures

pub returns : goal.returns
returns c =
    let a = c.args in
    output_is a.s.now (four_of a.c0.now a.c1.now a.c2.now a.c3.now) (four_of a.r0.now a.r1.now a.r2.now a.r3.now) a.out.now c.height-n.result c.height-n.ensures
    c.is_roomy-fits.result c.is_roomy-fits.ensures c.lay_spots-m.ensures
    c.store.ensures c.store-2.ensures c.store-3.ensures c.store-4.ensures c.answer_of.ensures c.advance.ensures
