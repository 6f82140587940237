-- `stat::turn` meets its contract.
use Rattle.float.proofs.Floats.{nan_is}
use Rattle.fit.specs.Cubic.{horner_of}
use Rattle.columns.specs.Stat.{turn_at, point_of, height_of}
use Rattle.columns.proofs.stat.turn.Goals as goal

pub returns : goal.returns
unfolding point_of height_of turn_at horner_of
returns c = (rw (c.pick-3.ensures, nan_is, c.pick-2.ensures, c.pick.ensures, c.beyond-cubic.ensures), rw (c.pick-2.ensures, c.pick.ensures, c.beyond-cubic.ensures))
