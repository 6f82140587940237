-- `spread` meets its contract.
use Rattle.profile.specs.Four.{spread_of}
use Rattle.profile.proofs.four.spread.Goals as goal

pub returns : goal.returns
unfolding spread_of
returns c = rw (← c.mean.ensures, ← c.less.ensures)
