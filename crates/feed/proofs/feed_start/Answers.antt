-- `feed_start` meets its contract.
use mathlib.Core.Path.{sym, ◌∙◌}
use native.Mathlib.Omega.{arith}
use Rattle.feed.specs.Feed.{start_of, started_by}
use Rattle.feed.proofs.FeedLaws.{octave-most}
use Rattle.feed.proofs.feed_start.Goals as goal

pub overflow_cast-octave : goal.overflow_cast-octave
overflow_cast-octave c = let most = octave-most _ _ _ _ _ _ _ _ _ (sym c.checked-check.ensures ∙ c.in-Ok.is) in omega arith

pub returns-in-Err : goal.returns-in-Err
unfolding start_of started_by
returns-in-Err c = rw (c.open.ensures, ← c.checked-check.ensures, c.in-Err.is)

pub returns-in-Ok : goal.returns-in-Ok
unfolding start_of started_by
returns-in-Ok c = rw (c.open-in-Ok.ensures, ← c.checked-check.ensures, c.in-Ok.is)
