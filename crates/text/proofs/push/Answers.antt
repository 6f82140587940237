-- `push` meets its contract.
use Rattle.text.proofs.TextLaws.{wrote_one}
use Rattle.text.proofs.push.Goals as goal

pub returns : goal.returns
returns c = wrote_one _ _ _ c.requires
