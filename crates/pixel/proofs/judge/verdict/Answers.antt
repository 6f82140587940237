-- `judge::verdict` meets its contract.
use mathlib.Core.Path.{sym, ◌∙◌}
use borrow.Author.Tests.{not-true, not-false}
use Rattle.pixel.proofs.OrderLaws.{verdict_off, verdict_on}
use Rattle.pixel.proofs.judge.verdict.Goals as goal

pub returns-then-not-own_gate : goal.returns-then-not-own_gate
returns-then-not-own_gate c =
    let a = c.args in
    let gate = c.own_gate in
    verdict_off a.set a.th a.f a.nine.now a.row a.col a.is_max a.k.now c.requires.k_value a.e c.requires.e_value (sym gate.ensures ∙ not-true gate.result c.if-not-own_gate.true-raw)

pub returns : goal.returns
returns c =
    let a = c.args in
    let gate = c.own_gate in
    rw (c.found_at.ensures, c.peak_of.ensures, c.sigma_of.ensures)
    (verdict_on a.set a.th a.f a.nine.now a.row a.col a.is_max a.k.now c.requires.k_value a.e c.requires.e_value (sym gate.ensures ∙ not-false gate.result c.if-not-own_gate.false-raw))
