-- `read_or_blank` meets its contract.
use mathlib.Core.Path.{sym, ◌∙◌}
use Rattle.tables.proofs.SetLaws.{read-held, refused-zeros, refused-blank}
use Rattle.tables.proofs.read_or_blank.Goals as goal

pub returns-in-Ok : goal.returns-in-Ok
returns-in-Ok c = sym (read-held _ _ (sym c.read_set.ensures ∙ c.in-Ok.is))

pub returns-in-Err : goal.returns-in-Err
returns-in-Err c = let e = sym c.read_set.ensures ∙ c.in-Err.is in refused-zeros _ _ e ∙ sym (refused-blank _ _ e)
