use Rattle.fit.specs.Band.{extreme_by}
use borrow.Author.Tests.{not-true, not-false}
use Rattle.fit.proofs.scale_fit.band_extreme.Goals as goal

pub returns-then-not-all_finite : goal.returns-then-not-all_finite
unfolding extreme_by
returns-then-not-all_finite c = rw (← c.all_finite.ensures, not-true c.all_finite.result c.if-not-all_finite.true-raw) c.not_a_number.ensures

pub returns : goal.returns
unfolding extreme_by
returns c = rw (← c.all_finite.ensures, not-false c.all_finite.result c.if-not-all_finite.false-raw, ← c.sign_of-sign.ensures, ← c.horner.ensures, ← c.horner-2.ensures, ← c.max-ends.ensures, ← c.stationary-point.ensures, ← c.better.ensures)
