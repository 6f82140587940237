-- `list::thin_codes` meets its contract. The loop's invariant: the first j entries are thinned to m, the others are as they were.
use mathlib.Core.Path.{◌≡◌, subst}
use mathlib.Core.Bool.{Bool}
use native.Mathlib.Omega.{arith}
use lib.ListN.{length, get_or}
use Rattle.rivals.proofs.ListLaws.{thinning_none, thinning_more, counted_not}
use Rattle.rivals.proofs.list.thin_codes.Goals as goal

pub loop-j-init : goal.loop-j-init
loop-j-init g c = thinning_none _ _

pub loop-j-preserved : goal.loop-j-preserved
loop-j-preserved g c =
    let l = c.loop-j in
    let out = c.is_out in
    thinning_more _ _ _ out.result c.from-m.result c.requires.coded c.loop-j-test.true (omega arith)
    (λ e. subst (λ (b : Bool). goal.F-post g c.args.is_out (get_or l.codes l.j 0) b) e out.ensures) (counted_not out.result c.from-m.ensures) l.invariant

pub returns : goal.returns
returns g c =
    let l = c.loop-j in
    let e : length c.args.codes.now ≡ l.j = omega arith in
    rw e l.invariant.first
