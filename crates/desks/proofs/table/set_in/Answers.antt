-- `table::set_in` meets its contract.
use Prim.Native.Nat.{◌*◌}
use mathlib.Core.Path.{ap, ◌∙◌}
use Rattle.tables.specs.Refusal.{read_or_blank}
use Rattle.desks.specs.Table.{slot_of}
use Rattle.desks.proofs.CodeLaws.{part_record}
use Rattle.desks.proofs.table.set_in.Goals as goal

pub returns : goal.returns
unfolding slot_of
returns c =
    let a = c.args in
    c.read_or_blank.ensures ∙ ap read_or_blank (part_record a.t.now (a.slot * 528))
