-- `is_same` meets its contract.
use mathlib.Core.Path.{sym, ◌∙◌}
use Rattle.alike.proofs.SameLaws.{same_pointwise}
use Rattle.alike.proofs.is_same.Goals as goal

pub returns : goal.returns
returns c = c.eq.ensures ∙ sym (same_pointwise _ _)
