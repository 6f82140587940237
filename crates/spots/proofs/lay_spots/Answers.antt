-- `lay_spots` meets its contract.
use borrow.Author.Tests.{not-true, not-false}
use Rattle.record.proofs.LayoutLaws.{laid_none}
use Rattle.spots.proofs.lay_spots.Goals as goal

pub returns-then-not-fits : goal.returns-then-not-fits
returns-then-not-fits c = rw (not-true c.args.fits c.if-not-fits.true-raw) laid_none

pub returns : goal.returns
returns c = rw (not-false c.args.fits c.if-not-fits.false-raw) c.column_spots.ensures
