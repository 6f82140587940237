-- `emit` meets its contract.
use native.Mathlib.Omega.{arith}
use mathlib.Core.Path.{refl, sym, ◌∙◌}
use Rattle.record.proofs.LayoutLaws.{lay-one, laid_none}
use Rattle.pixel.specs.Listed.{listed}
use Rattle.listing.proofs.emit.Goals as goal

pub returns-in-Some : goal.returns-in-Some
unfolding listed
returns-in-Some c = rw c.in-Some.is (record { count = refl; bytes = c.put_at.ensures ∙ sym (lay-one _ _ _) }, omega arith)

pub returns-in-None : goal.returns-in-None
unfolding listed
returns-in-None c = rw c.in-None.is (laid_none, omega arith)
