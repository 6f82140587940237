-- `list` meets its contract.
use mathlib.Core.Path.{sym, ◌∙◌}
use Rattle.lister.specs.Output.{checked_output, list_output}
use Rattle.lister.proofs.OutputLaws.{wrote_begins, begins_counts}
use Rattle.lister.proofs.list.Goals as goal

pub list_tile-requires : goal.list_tile-requires
list_tile-requires c = sym c.checked-check.ensures ∙ c.in-Ok.is

pub returns-in-Err : goal.returns-in-Err
unfolding list_output checked_output
returns-in-Err c =
    let b = wrote_begins c.put_refused.ensures in
    record { begins = rw (← c.checked-check.ensures, c.in-Err.is, ← c.from.ensures) b; prefix_len = begins_counts b }

pub returns-in-Ok : goal.returns-in-Ok
unfolding list_output checked_output
returns-in-Ok c =
    let b = c.list_tile.ensures in
    record { begins = rw (← c.checked-check.ensures, c.in-Ok.is) b; prefix_len = begins_counts b }
