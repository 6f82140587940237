-- `checks::is_good_record` meets its contract.
use mathlib.Core.Path.{ap, ◌∙◌}
use Rattle.std.specs.Prelude.{is_ok}
use Rattle.desks.proofs.CodeLaws.{read-good}
use Rattle.desks.proofs.checks.is_good_record.Goals as goal

pub returns : goal.returns
returns c = c.is_ok.ensures.value ∙ ap is_ok c.read_set.ensures ∙ read-good _
