-- `block::listed` meets its contract: opened, packed, thinned by its own lines and by the cubics gathered beside them, and raised one after the other.
use borrow.Author.Rules.{rules}
use native.Mathlib.Omega.{arith}
use Rattle.samples.specs.Map.{four_in}
use Rattle.nine.specs.Nine.{three_of}
use Rattle.sides.proofs.LeftLaws.{opened_plain, left-listed}
use Rattle.sides.proofs.BlockLaws.{own_same, before_stand, after_stand}
use Rattle.sides.proofs.block.listed.Goals as goal

pub fill_list-requires : goal.fill_list-requires
fill_list-requires c =
    let own = c.own_list-k.ensures in
    let pack = c.pack_line-m.ensures in
    let pre = c.requires in
    record { spans = pre.beside.before; n_bound = (pre.n_bound, omega (arith, pack.few, own.few, pre.n_bound)); z_bound = omega arith }

pub fill_list-requires-2 : goal.fill_list-requires-2
fill_list-requires-2 c =
    let own = c.own_list-k.ensures in
    let pack = c.pack_line-m.ensures in
    let pre = c.requires in
    record { spans = pre.beside.after; n_bound = (pre.n_bound, omega (arith, pack.few, own.few, pre.n_bound)); z_bound = omega arith }

pub side_list-o-requires : goal.side_list-o-requires
side_list-o-requires c =
    let own = c.own_list-k.ensures in
    let pack = c.pack_line-m.ensures in
    record { k_bound = omega (arith, pack.few, own.few, c.requires.n_bound); coded = own.coded }

pub accept_list-requires : goal.accept_list-requires
accept_list-requires c =
    let side = c.side_list-o.ensures in
    let own = c.own_list-k.ensures in
    let pack = c.pack_line-m.ensures in
    let pre = c.requires in
    record { k_bound = omega (arith, pack.few, own.few, side.few, pre.n_bound); coded = side.coded }

pub returns : goal.returns
unfolding three_of
returns c =
    let a = c.args in
    let few = c.requires.n_bound in
    let left = c.fill_list.ensures in
    let right = c.fill_list-2.ensures in
    let three = three_of (four_in a.ring.now) (four_in a.next.now) a.u a.x a.y a.z a.t a.set.sigmas in (
      left-listed a.set a.th three a.n _ _ _ _ _ _ a.w.now _ _ few (search rules) c.requires.slot (opened_plain a.w.now c.open_line.ensures) _ _ _ _ _ _ _ _ _ _ _
          c.pack_line-m.ensures c.own_list-k.ensures (own_same a.set few left right) (before_stand a.set few left right) (after_stand a.set few left right) c.side_list-o.ensures c.accept_list.ensures,
      right.long,
    )
