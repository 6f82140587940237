-- `checks::is_owned` meets its contract.
use mathlib.Core.Path.{sym, ◌∙◌}
use Rattle.desks.proofs.CallLaws.{usable_parts}
use Rattle.desks.proofs.checks.is_owned.Goals as goal

pub returns-then-not-is_usable : goal.returns-then-not-is_usable
returns-then-not-is_usable c = rw (← c.is_usable.ensures, c.if-not-is_usable.true)

pub owner_of-requires : goal.owner_of-requires
owner_of-requires c =
    let a = c.args in
    (usable_parts a.desk a.slot a.t.now (sym c.is_usable.ensures ∙ c.if-not-is_usable.false)).0

pub returns : goal.returns
returns c = rw (← c.is_usable.ensures, c.if-not-is_usable.false, c.owner_of.ensures)
