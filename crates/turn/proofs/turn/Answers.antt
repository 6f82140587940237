-- `turn` meets its contract.
use Rattle.turn.proofs.TurnLaws.{starts, few-down, few-right, cuts, numbers, ready}
use borrow.Author.Rules.{rules}
use Rattle.turn.proofs.turn.Goals as goal

pub length_of-h-requires : goal.length_of-h-requires
length_of-h-requires c = (starts c.requires.scene_in c.requires.turn).0

pub length_of-w-requires : goal.length_of-w-requires
length_of-w-requires c = (starts c.requires.scene_in c.requires.turn).1

pub start_of-top-requires : goal.start_of-top-requires
start_of-top-requires c = few-down c.requires.scene_in c.requires.turn

pub start_of-left-requires : goal.start_of-left-requires
start_of-left-requires c = few-right c.requires.scene_in c.requires.turn

pub copies-requires : goal.copies-requires
copies-requires c =
    cuts c.requires.scene_in c.requires.turn c.start_of-top.result c.start_of-left.result c.length_of-h.result c.length_of-w.result c.start_of-top.ensures c.start_of-left.ensures c.length_of-h.ensures c.length_of-w.ensures

pub list_copies-requires : goal.list_copies-requires
list_copies-requires c =
    let a = c.args in
    record { lent = (ready a.set a.th a.rows a.cols a.octave a.l0.now a.l1.now a.l2.now a.l3.now a.t0.now a.t1.now a.t2.now a.t3.now a.out.now a.i a.j a.done c.requires.scene_in c.requires.turn c.start_of-top.result c.start_of-left.result c.length_of-h.result c.length_of-w.result c.start_of-top.ensures c.start_of-left.ensures c.length_of-h.ensures c.length_of-w.ensures _ _ _ _ c.copies.ensures).lends; fits = numbers a.set a.th a.rows a.cols a.octave a.l0.now a.l1.now a.l2.now a.l3.now a.t0.now a.t1.now a.t2.now a.t3.now a.out.now a.i a.j a.done c.requires.scene_in c.requires.turn }

pub returns : goal.returns
returns c =
    let a = c.args in
    (ready a.set a.th a.rows a.cols a.octave a.l0.now a.l1.now a.l2.now a.l3.now a.t0.now a.t1.now a.t2.now a.t3.now a.out.now a.i a.j a.done c.requires.scene_in c.requires.turn c.start_of-top.result c.start_of-left.result c.length_of-h.result c.length_of-w.result c.start_of-top.ensures c.start_of-left.ensures c.length_of-h.ensures c.length_of-w.ensures _ _ _ _ c.copies.ensures).tile-after c.list_copies.result _ c.list_copies.ensures
