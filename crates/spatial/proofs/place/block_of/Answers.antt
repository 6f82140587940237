-- `place::block_of` meets its contract.
use Rattle.spatial.specs.Place.{block_of}
use borrow.Author.Tests.{eq-eqb, ne_eqb}
use native.Mathlib.Omega.{arith}
use Rattle.spatial.proofs.place.block_of.Goals as goal

pub returns-then-index-eq1 : goal.returns-then-index-eq1
unfolding block_of
returns-then-index-eq1 c = (rw (eq-eqb _ _ c.if-index-eq1.true), omega arith)

pub returns-else-index-eq1 : goal.returns-else-index-eq1
unfolding block_of
returns-else-index-eq1 c = (rw (ne_eqb _ _ c.if-index-eq1.false), omega arith)
