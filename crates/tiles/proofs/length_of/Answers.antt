-- `length_of` meets its contract.
use native.Mathlib.Omega.{arith}
use Rattle.tiles.specs.Tiles.{length_of}
use Rattle.tiles.proofs.length_of.Goals as goal

pub returns-then-left-gt-RUN : goal.returns-then-left-gt-RUN
unfolding length_of
returns-then-left-gt-RUN c = omega arith

pub returns : goal.returns
unfolding length_of
returns c = omega arith
