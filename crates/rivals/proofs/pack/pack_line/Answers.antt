-- `pack::pack_line` meets its contract. The loop's invariant: the codes of the first i pixels are packed.
use borrow.Author.Rules.{rules}
use mathlib.Core.Path.{◌≡◌}
use native.Mathlib.Omega.{arith}
use Rattle.rivals.proofs.ListLaws.{packed_none, packed_more}
use Rattle.rivals.proofs.pack.pack_line.Goals as goal

pub loop-i-init : goal.loop-i-init
loop-i-init c = packed_none _ _ (search rules)

pub loop-i-preserved : goal.loop-i-preserved
loop-i-preserved c =
    let l = c.loop-i in
    packed_more c.low_bit-m.result c.high_bit-m.result (omega arith) l.invariant c.low_bit-m.ensures c.high_bit-m.ensures

pub returns : goal.returns
returns c =
    let l = c.loop-i in
    let e : c.args.n ≡ l.i = omega (arith, c.loop-i-test.false) in
    rw e l.invariant
