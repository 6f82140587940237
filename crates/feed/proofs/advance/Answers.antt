-- `advance` meets its contract.
use borrow.Author.Tests.{not-true, not-false}
use Rattle.feed.proofs.advance.Goals as goal

pub returns-then-taken : goal.returns-then-taken
returns-then-taken c = rw c.if-taken.true

pub returns-else-taken : goal.returns-else-taken
returns-else-taken c = rw c.if-taken.false
