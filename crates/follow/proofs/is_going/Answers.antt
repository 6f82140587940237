-- `is_going` meets its contract.
use mathlib.Core.Path.{◌∙◌}
use Rattle.follow.proofs.WalkLaws.{goes-on}
use Rattle.follow.proofs.is_going.Goals as goal

pub returns : goal.returns
returns c = c.is_continue.ensures ∙ goes-on c.args.w
