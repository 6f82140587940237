-- `read_set` meets its contract.
use mathlib.Core.Path.{sym}
use borrow.Author.Tests.{eq-eqb, not-true, not-false}
use Rattle.tables.specs.Set.{good_record}
use Rattle.tables.specs.Refusal.{refused_set}
use Rattle.tables.proofs.SetLaws.{good-record_read, bad-record-refused, wrong_length}
use Rattle.tables.proofs.read_set.Goals as goal

pub returns-then-bytes-ne528 : goal.returns-then-bytes-ne528
unfolding refused_set
returns-then-bytes-ne528 c = rw c.refused.ensures (sym (bad-record-refused _ (wrong_length _ c.if-bytes-ne528.true)))

pub returns-then-not-is_spare_zero : goal.returns-then-not-is_spare_zero
unfolding good_record refused_set
returns-then-not-is_spare_zero c = rw c.refused-then-not-is_spare_zero.ensures (sym (bad-record-refused _ (rw (eq-eqb _ 528 c.if-bytes-ne528.false, ← c.is_spare_zero.ensures, not-true c.is_spare_zero.result c.if-not-is_spare_zero.true-raw))))

pub returns-then-not-is_good : goal.returns-then-not-is_good
unfolding good_record refused_set
returns-then-not-is_good c = rw c.refused-then-not-is_good.ensures (sym (bad-record-refused _ (rw (eq-eqb _ 528 c.if-bytes-ne528.false, ← c.is_spare_zero.ensures, not-false c.is_spare_zero.result c.if-not-is_spare_zero.false-raw, ← c.set_of-set.ensures, ← c.is_good.ensures, not-true c.is_good.result c.if-not-is_good.true-raw))))

pub returns : goal.returns
unfolding good_record
returns c = rw c.set_of-set.ensures (sym (good-record_read _ (rw (eq-eqb _ 528 c.if-bytes-ne528.false, ← c.is_spare_zero.ensures, not-false c.is_spare_zero.result c.if-not-is_spare_zero.false-raw, ← c.set_of-set.ensures, ← c.is_good.ensures, not-false c.is_good.result c.if-not-is_good.false-raw))))
