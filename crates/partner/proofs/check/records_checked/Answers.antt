-- `check::records_checked` meets its contract: each return follows from the tests on the way to it.
use borrow.Author.Tests.{lt-ltb, le-ltb, not-true, not-false}
use Prim.Native.Nat.{◌%◌}
use lib.Dec.{eqb}
use lib.ListN.{length}
use Rattle.record.specs.Layout.{spot_width}
use Rattle.tables.specs.Refusal.{unless, first_of}
use Rattle.partner.proofs.check.records_checked.Goals as goal

pub returns-then-not-whole : goal.returns-then-not-whole
unfolding first_of unless
returns-then-not-whole c = rw (not-true (eqb (length c.args.list.now % spot_width) 0) c.if-not-whole.true-raw)

pub returns-then-bad-count : goal.returns-then-bad-count
unfolding first_of unless
returns-then-bad-count c = rw (not-false (eqb (length c.args.list.now % spot_width) 0) c.if-not-whole.false-raw, ← c.first_bad-bad.ensures, lt-ltb _ _ c.if-bad-count.true)

pub returns : goal.returns
unfolding first_of unless
returns c = rw (not-false (eqb (length c.args.list.now % spot_width) 0) c.if-not-whole.false-raw, ← c.first_bad-bad.ensures, le-ltb _ _ c.if-bad-count.false)
