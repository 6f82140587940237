-- `answer_of` meets its contract.

use Rattle.feed.proofs.answer_of.Goals as goal

pub returns-then-taken : goal.returns-then-taken
returns-then-taken c = rw c.if-taken.true

pub returns : goal.returns
returns c = rw c.if-taken.false
