-- `tiles_of` meets its contract.
use native.Mathlib.Omega.{arith}
use Rattle.tiles.specs.Tiles.{tiles_of}
use Rattle.tiles.proofs.tiles_of.Goals as goal

pub returns-then-side-lt9 : goal.returns-then-side-lt9
unfolding tiles_of
returns-then-side-lt9 c = omega arith

pub returns : goal.returns
unfolding tiles_of
returns c = omega arith
