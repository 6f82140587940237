-- `end` meets its contract.
use borrow.Author.Tests.{lt-ltb, le-ltb}
use Rattle.follow.specs.Follow.{end_of}
use Rattle.follow.proofs.end.Goals as goal

pub returns-then-i-list : goal.returns-then-i-list
unfolding end_of
returns-then-i-list c = rw (c.in-Continue.is, lt-ltb _ _ c.if-i-list.true)

pub returns-else-i-list : goal.returns-else-i-list
unfolding end_of
returns-else-i-list c = rw (c.in-Continue.is, le-ltb _ _ c.if-i-list.false)

pub returns-in-Break : goal.returns-in-Break
unfolding end_of
returns-in-Break c = rw c.in-Break.is
