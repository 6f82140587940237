-- `level_list` meets its contract. The loop's invariant: the samples beside the first i codes are in the line.
use borrow.Author.Rules.{rules}
use mathlib.Core.Path.{◌≡◌}
use native.Mathlib.Omega.{arith}
use Rattle.gather.proofs.ListLaws.{sampled_none, sampled_more}
use Rattle.gather.proofs.level_list.Goals as goal

pub loop-i-init : goal.loop-i-init
loop-i-init c = (omega arith, sampled_none _ _ _ (search rules))

pub loop-i-preserved : goal.loop-i-preserved
loop-i-preserved c = (omega arith, sampled_more c.loop-i.invariant.1 c.pixel_of.result c.pixel_of.ensures c.put_samples.ensures)

pub returns : goal.returns
returns c =
    let l = c.loop-i in
    let e : c.args.k ≡ l.i = omega (arith, c.loop-i-test.false) in
    rw e l.invariant.1
