-- `lay_both` meets its contract: two verdicts laid one after the other.
use native.Mathlib.Omega.{arith}
use Rattle.record.proofs.LayoutLaws.{laid-append}
use Rattle.listing.proofs.lay_both.Goals as goal

pub emit-requires : goal.emit-requires
emit-requires c = omega (arith, c.requires, c.emit-m.ensures.1)

pub returns : goal.returns
returns c = laid-append c.emit-m.ensures.0 c.emit.ensures.0
