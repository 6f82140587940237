-- `judge::kept` meets its contract.
use mathlib.Core.Path.{◌∙◌}
use mathlib.Core.Bool.{◌&&◌}
use borrow.Author.Tests.{not-true, not-false}
use Rattle.pixel.specs.Ring.{ring_of}
use Rattle.pixel.specs.Verdict.{whole_of}
use Rattle.pixel.proofs.OrderLaws.{nothing_either}
use Rattle.pixel.proofs.judge.kept.Goals as goal

pub returns-then-not-beats_all : goal.returns-then-not-beats_all
returns-then-not-beats_all c = rw (← c.beats_all.ensures, not-true c.beats_all.result c.if-not-beats_all.true-raw)

pub returns-then-is_whole : goal.returns-then-is_whole
returns-then-is_whole c = rw (c.in_ok-r.was, ← c.beats_all.ensures, not-false c.beats_all.result c.if-not-beats_all.false-raw, ← c.is_whole.ensures, c.if-is_whole.true)

pub returns-else-is_whole : goal.returns-else-is_whole
returns-else-is_whole c = rw (c.in_ok-r.was, ← c.beats_all.ensures, not-false c.beats_all.result c.if-not-beats_all.false-raw, ← c.is_whole.ensures, c.if-is_whole.false)

pub returns-in_err-r : goal.returns-in_err-r
returns-in_err-r c =
    let a = c.args in
    c.from_residual.ensures ∙ rw c.in_err-r.was (nothing_either (ring_of a.k.now a.peak a.band a.is_max && whole_of a.nine.now))
