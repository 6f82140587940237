-- `block::mark_block` meets its contract: where no word has a bit there is nothing to list.
use borrow.Author.Rules.{rules}
use native.Mathlib.Omega.{arith}
use Rattle.samples.specs.Map.{four_in}
use Rattle.nine.specs.Nine.{three_of}
use Rattle.sides.proofs.BlockLaws.{reach_all, own_filled, filled_none, rings-with}
use Rattle.sides.proofs.block.mark_block.Goals as goal

pub own_lines-any-requires : goal.own_lines-any-requires
own_lines-any-requires c =
    let a = c.args in
    let reach = reach_all (four_in a.ring.now) a.n c.requires.beside.own in
    record { n_bound = (omega arith, omega arith); reach = reach }

pub returns-then-any-eq0 : goal.returns-then-any-eq0
returns-then-any-eq0 c =
    let a = c.args in
    let l = four_in a.ring.now in
    let r = four_in a.next.now in
    let filled = own_filled l r a.u a.x a.y a.z a.t a.set.sigmas c.own_lines-any.ensures in (
      filled_none a.set a.th (three_of l r a.u a.x a.y a.z a.t a.set.sigmas) a.n c.requires.n_bound (search rules) filled c.if-any-eq0.true c.open_line.ensures,
      filled.rings,
    )

pub listed-requires : goal.listed-requires
listed-requires c =
    let a = c.args in
    let l = four_in a.ring.now in
    let r = four_in a.next.now in
    let filled = own_filled l r a.u a.x a.y a.z a.t a.set.sigmas c.own_lines-any.ensures in
    record { beside = c.requires.beside; n_bound = c.requires.n_bound; slot = filled.slot }

pub returns : goal.returns
returns c = (c.listed.ensures.0, rings-with c.own_lines-any.ensures.rings c.listed.ensures.1)
