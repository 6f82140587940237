-- `run` meets its contract.
use borrow.Author.Tests.{not-true, not-false}
use mathlib.Core.Path.{sym, ap, ◌∙◌}
use Rattle.tables.specs.declared.Set.{Set}
use Rattle.detect.specs.Detect.{detect_of}
use Rattle.desks.proofs.CallLaws.{runnable_at}
use Rattle.desk_run.proofs.RunLaws.{not-runnable, run_detects}
use Rattle.desk_run.proofs.run.Goals as goal

pub returns-then-not-is_runnable : goal.returns-then-not-is_runnable
returns-then-not-is_runnable c =
    let a = c.args in
    sym (not-runnable a.table.now a.slot a.thresholds a.rows a.cols a.octave a.l0.now a.l1.now a.l2.now a.l3.now a.out.now (sym c.is_runnable.ensures ∙ not-true c.is_runnable.result c.if-not-is_runnable.true-raw))

pub set_in-set-requires : goal.set_in-set-requires
set_in-set-requires c =
    let a = c.args in
    runnable_at a.table.now a.slot (sym c.is_runnable.ensures ∙ not-false c.is_runnable.result c.if-not-is_runnable.false-raw)

pub returns : goal.returns
returns c =
    let a = c.args in
    c.detect.ensures
    ∙ ap (λ (s : Set). detect_of s a.thresholds a.rows a.cols a.octave a.l0.now a.l1.now a.l2.now a.l3.now a.out.now) c.set_in-set.ensures
    ∙ sym (run_detects a.table.now a.slot a.thresholds a.rows a.cols a.octave a.l0.now a.l1.now a.l2.now a.l3.now a.out.now (sym c.is_runnable.ensures ∙ not-false c.is_runnable.result c.if-not-is_runnable.false-raw))
