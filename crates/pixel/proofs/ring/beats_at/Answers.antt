-- `ring::beats_at` meets its contract.
use mathlib.Core.Path.{sym, ◌∙◌}
use borrow.Author.Tests.{eq-eqb, ne_eqb}
use Rattle.pixel.proofs.RingLaws.{beats_itself}
use Rattle.pixel.proofs.OrderLaws.{beats-listed}
use Rattle.pixel.proofs.ring.beats_at.Goals as goal

pub returns-then-i-eq4 : goal.returns-then-i-eq4
returns-then-i-eq4 c = sym (beats_itself _ _ _ _ _ (eq-eqb _ _ c.if-i-eq4.true))

pub returns : goal.returns
returns c = c.beats.ensures ∙ beats-listed _ _ _ _ _ (ne_eqb _ _ c.if-i-eq4.false)
