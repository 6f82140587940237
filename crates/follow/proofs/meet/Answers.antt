-- `meet` meets its contract: each return follows from the tests on the way to it.
use native.Mathlib.Numerals.{add-one}
use mathlib.Core.Path.{sym, ◌∙◌}
use Rattle.follow.proofs.WalkLaws.{meet_end, meet_extra, meet_absent, meet_same, meet_different}
use Rattle.follow.proofs.meet.Goals as goal

pub returns-then-list-i : goal.returns-then-list-i
returns-then-list-i c = sym (meet_end _ _ _ c.if-list-i.true)

pub returns-then-is_earlier : goal.returns-then-is_earlier
returns-then-is_earlier c =
    let read = c.record_from-given.ensures in
    sym (meet_extra _ _ _ c.if-list-i.false (rw (← read) (sym c.is_earlier.ensures ∙ c.if-is_earlier.true)))

pub returns-then-is_earlier-2 : goal.returns-then-is_earlier-2
returns-then-is_earlier-2 c =
    let read = c.record_from-given.ensures in
    sym (meet_absent _ _ _ c.if-list-i.false (rw (← read) (sym c.is_earlier.ensures ∙ c.if-is_earlier.false)) (rw (← read) (sym c.is_earlier-2.ensures ∙ c.if-is_earlier-2.true)))

pub returns-then-is_record : goal.returns-then-is_record
returns-then-is_record c =
    let read = c.record_from-given.ensures in
    rw add-one (sym (meet_same _ _ _ c.if-list-i.false (rw (← read) (sym c.is_earlier.ensures ∙ c.if-is_earlier.false)) (rw (← read) (sym c.is_earlier-2.ensures ∙ c.if-is_earlier-2.false)) (sym c.is_record.ensures ∙ c.if-is_record.true)))

pub returns : goal.returns
returns c =
    let read = c.record_from-given.ensures in
    sym (meet_different _ _ _ c.if-list-i.false (rw (← read) (sym c.is_earlier.ensures ∙ c.if-is_earlier.false)) (rw (← read) (sym c.is_earlier-2.ensures ∙ c.if-is_earlier-2.false)) (sym c.is_record.ensures ∙ c.if-is_record.false))
