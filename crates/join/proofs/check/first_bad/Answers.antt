-- `check::first_bad` meets its contract. What is left to search gives the whole search's answer.
use mathlib.Core.Path.{sym, ◌∙◌}
use native.Mathlib.Omega.{arith}
use Rattle.join.proofs.CheckLaws.{bad-start, bad-here, bad_further, bad_end}
use Rattle.join.proofs.check.first_bad.Goals as goal

pub loop-i-init : goal.loop-i-init
loop-i-init g c = (omega arith, bad-start _ _ _ _ _)

pub record_in-requires : goal.record_in-requires
record_in-requires g c = rw (← c.count_of-count.ensures) (omega arith)

pub returns-then-not-is_readable : goal.returns-then-not-is_readable
returns-then-not-is_readable g c =
    let l = c.loop-i in
    rw (← c.count_of-count.ensures) (sym (l.invariant.1 ∙ bad-here _ _ _ _ _ l.i (omega arith) (rw (← c.record_in.ensures, ← c.is_readable.ensures) (c.if-not-is_readable.true))))

pub loop-i-smaller : goal.loop-i-smaller
loop-i-smaller g c = omega arith

pub loop-i-preserved : goal.loop-i-preserved
loop-i-preserved g c =
    let l = c.loop-i in
    (omega arith, l.invariant.1 ∙ bad_further _ _ _ _ _ l.i (omega arith) (rw (← c.record_in.ensures, ← c.is_readable.ensures) (c.if-not-is_readable.false)))

pub returns : goal.returns
returns g c = rw (← c.count_of-count.ensures) (sym (c.loop-i.invariant.1 ∙ bad_end _ _ _ _ _ _ (omega arith) ∙ omega arith))
