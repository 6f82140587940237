-- `coef::beyond` meets its contract.
use Rattle.columns.proofs.CoefLaws.{beyond_is}
use Rattle.columns.proofs.coef.beyond.Goals as goal

pub returns : goal.returns
returns c = beyond_is c.args.x
