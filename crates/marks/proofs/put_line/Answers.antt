-- `put_line` meets its contract. The loop's invariant: the first i bytes of the column are written.
use borrow.Author.Rules.{rules}
use mathlib.Core.Path.{◌≡◌}
use native.Mathlib.Omega.{arith}
use Rattle.marks.proofs.MarksLaws.{puts_none, puts_more, puts_all}
use Rattle.marks.proofs.put_line.Goals as goal

pub loop-i-init : goal.loop-i-init
loop-i-init c = (omega arith, puts_none (search rules))

pub byte_of-requires : goal.byte_of-requires
byte_of-requires c = record { i_bound = omega arith; by_index = c.requires.by_index }

pub loop-i-preserved : goal.loop-i-preserved
loop-i-preserved c = (omega arith, puts_more c.byte_of.result c.requires.col_bound c.loop-i-test.true c.byte_of.ensures c.loop-i.invariant.1)

pub returns : goal.returns
returns c = let e : c.loop-i.i ≡ 32 = omega (arith, c.loop-i-test.false, c.loop-i.invariant.0) in puts_all (rw e at c.loop-i.invariant.1)
