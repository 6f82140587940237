-- `limits::nan_among` meets its contract: a number equals itself, and a NaN does not.
use Rattle.float.proofs.Floats.{ne_self}
use Rattle.tables.proofs.limits.nan_among.Goals as goal

pub returns : goal.returns
returns c =
    rw (ne_self c.args.peak, ne_self c.args.sigma, ne_self c.args.ratio, ne_self c.args.low, ne_self c.args.high)
