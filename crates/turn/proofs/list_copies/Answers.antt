-- `list_copies` meets its contract.
use mathlib.Core.Path.{sym}
use lib.Seq.{length-take-le}
use Rattle.turn.proofs.TurnLaws.{lent_small}
use borrow.Author.Rules.{rules}
use Rattle.turn.proofs.list_copies.Goals as goal

pub slice_bounds-fill-end : goal.slice_bounds-fill-end
slice_bounds-fill-end c = sym (length-take-le _ c.args.t0.now c.requires.lent.fits0)

pub slice_bounds-fill-end-2 : goal.slice_bounds-fill-end-2
slice_bounds-fill-end-2 c = sym (length-take-le _ c.args.t1.now c.requires.lent.fits1)

pub slice_bounds-fill-end-3 : goal.slice_bounds-fill-end-3
slice_bounds-fill-end-3 c = sym (length-take-le _ c.args.t2.now c.requires.lent.fits2)

pub slice_bounds-fill-end-4 : goal.slice_bounds-fill-end-4
slice_bounds-fill-end-4 c = sym (length-take-le _ c.args.t3.now c.requires.lent.fits3)

pub fill-requires : goal.fill-requires
fill-requires c = let a = c.args in record { small = lent_small a.t0.now a.t1.now a.t2.now a.t3.now c.requires.lent; fits = c.requires.fits }
