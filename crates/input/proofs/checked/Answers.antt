-- `checked` meets its contract.
use borrow.Author.Tests.{lt-ltb, le-ltb, eq-eqb, ne_eqb}
use Rattle.tables.specs.Refusal.{unless, first_of}
use Rattle.input.specs.Input.{list_checks}
use Rattle.input.proofs.checked.Goals as goal

pub returns-then-input-lt560 : goal.returns-then-input-lt560
unfolding list_checks first_of unless
returns-then-input-lt560 c = rw (lt-ltb _ _ c.if-input-lt560.true)

pub returns-then-rows-gt60 : goal.returns-then-rows-gt60
unfolding list_checks first_of unless
returns-then-rows-gt60 c = rw (le-ltb _ _ c.if-input-lt560.false, ← c.count_from-rows.ensures, lt-ltb _ _ c.if-rows-gt60.true)

pub returns-then-cols-gt60 : goal.returns-then-cols-gt60
unfolding list_checks first_of unless
returns-then-cols-gt60 c = rw (le-ltb _ _ c.if-input-lt560.false, ← c.count_from-rows.ensures, le-ltb _ _ c.if-rows-gt60.false, ← c.count_from-cols.ensures, lt-ltb _ _ c.if-cols-gt60.true)

pub returns-then-input-whole_length : goal.returns-then-input-whole_length
unfolding list_checks first_of unless
returns-then-input-whole_length c = rw (le-ltb _ _ c.if-input-lt560.false, ← c.count_from-rows.ensures, le-ltb _ _ c.if-rows-gt60.false, ← c.count_from-cols.ensures, le-ltb _ _ c.if-cols-gt60.false, ← c.whole_length.ensures, ne_eqb _ _ c.if-input-whole_length.true)

pub returns : goal.returns
unfolding list_checks first_of unless
returns c = rw (le-ltb _ _ c.if-input-lt560.false, ← c.count_from-rows.ensures, le-ltb _ _ c.if-rows-gt60.false, ← c.count_from-cols.ensures, le-ltb _ _ c.if-cols-gt60.false, ← c.whole_length.ensures, eq-eqb _ _ c.if-input-whole_length.false)
