-- `checks::is_good_new` meets its contract.
use borrow.Author.Tests.{eq-eqb, ne_eqb}
use Rattle.store.specs.Store.{good_new}
use Rattle.store.proofs.checks.is_good_new.Goals as goal

pub returns-then-spot-ne-SPOT_WIDTH : goal.returns-then-spot-ne-SPOT_WIDTH
unfolding good_new
returns-then-spot-ne-SPOT_WIDTH c = rw (ne_eqb _ _ c.if-spot-ne-SPOT_WIDTH.true)

pub returns : goal.returns
unfolding good_new
returns c = rw (eq-eqb _ _ c.if-spot-ne-SPOT_WIDTH.false, ← c.record_from.ensures) c.is_readable.ensures
