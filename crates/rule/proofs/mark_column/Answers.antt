-- `mark_column` meets its contract. The loop's invariant: the marks of the pixels before the j-th are put.
use borrow.Author.Rules.{rules}
use native.Mathlib.Omega.{arith}
use Rattle.rule.proofs.RuleLaws.{block_room, ruled-none, ruled-more, ruled-all}
use Rattle.rule.proofs.mark_column.Goals as goal

pub loop-j-init : goal.loop-j-init
loop-j-init c = ruled-none _ _ _ _ (search rules)

pub overflow_sub-n : goal.overflow_sub-n
overflow_sub-n c = omega arith

pub block-requires : goal.block-requires
block-requires c =
    let l = c.loop-j in
    let height = c.min-m in
    let room = block_room c.args.column.now.state c.args.n l.j height.result c.requires c.loop-j-test.true (omega (arith, height.ensures)) in
    record { le_position = room.0; n_bound = (omega (arith, height.ensures), room.1) }

pub put_marks-requires : goal.put_marks-requires
put_marks-requires c =
    let l = c.loop-j in
    let height = c.min-m in
    let room = block_room c.args.column.now.state c.args.n l.j height.result c.requires c.loop-j-test.true (omega (arith, height.ensures)) in
    record { n_bound = (omega (arith, height.ensures), omega (arith, room.1, c.args.column.now.lent.rows-most)) }

pub loop-j-preserved : goal.loop-j-preserved
loop-j-preserved c =
    let block = c.block.ensures in
    ruled-more c.loop-j.invariant (λ i less few. omega (arith, c.min-m.ensures)) block.0 c.put_marks.ensures

pub returns-2 : goal.returns-2
returns-2 c = ruled-all (omega arith) (ruled-more c.loop-j.invariant (λ i less few. omega (arith, c.min-m.ensures)) c.block.ensures.0 c.put_marks.ensures)
