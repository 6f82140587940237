-- `has_nan` meets its contract.
use Rattle.tables.specs.Refusal.{any_nan}
use Rattle.tables.proofs.has_nan.Goals as goal

pub returns : goal.returns
unfolding any_nan
returns c = c.nan_among.ensures
