-- `thin::listed` meets its contract: opened, packed, thinned and raised one after the other.
use borrow.Author.Rules.{rules}
use native.Mathlib.Omega.{arith}
use Rattle.rivals.proofs.ThinLaws.{thin_listed}
use Rattle.rivals.proofs.thin.listed.Goals as goal

pub stat_list-k-requires : goal.stat_list-k-requires
stat_list-k-requires c =
    let pre = c.requires in
    let pack = c.pack_line-m.ensures in
    record { x_bound = pre.x_bound; z_bound = (pre.z_bound.0, omega (arith, pack.few)); coded = pack.coded }

pub mark_list-requires : goal.mark_list-requires
mark_list-requires c =
    let pre = c.requires in
    let pack = c.pack_line-m.ensures in
    let thinned = c.stat_list-k.ensures in
    record { x_bound = pre.x_bound; z_bound = (pre.z_bound.0, omega (arith, pack.few, thinned.few)); coded = thinned.coded }

pub returns : goal.returns
returns c =
    thin_listed c.args.y _ _ _ c.open_line.ensures c.args.set c.args.ratio c.args.n c.args.x c.args.z _ _ _ _ _ _ c.requires.z_bound.1 (search rules) _ _ _ _ _
    c.pack_line-m.ensures c.stat_list-k.ensures c.mark_list.ensures
