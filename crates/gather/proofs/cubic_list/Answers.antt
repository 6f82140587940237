-- `cubic_list` meets its contract. The loop's invariant: the cubics beside the first i codes are gathered.
use borrow.Author.Rules.{rules}
use mathlib.Core.Path.{◌≡◌}
use native.Mathlib.Omega.{arith}
use Rattle.gather.proofs.ListLaws.{gathered_none, gathered_more}
use Rattle.gather.proofs.cubic_list.Goals as goal

pub loop-i-init : goal.loop-i-init
loop-i-init c = (omega arith, gathered_none _ _ _ _ _ (record { first = search rules; second = search rules; third = search rules; fourth = search rules }))

pub loop-i-preserved : goal.loop-i-preserved
loop-i-preserved c = (omega arith, gathered_more c.requires.0 c.loop-i.invariant.1 c.pixel_of.result c.pixel_of.ensures c.put_below.ensures)

pub returns : goal.returns
returns c =
    let l = c.loop-i in
    let e : c.args.k ≡ l.i = omega (arith, c.loop-i-test.false) in
    rw e l.invariant.1
