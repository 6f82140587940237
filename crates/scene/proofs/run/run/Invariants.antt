-- `run::run` meets its contract. The loop's invariant: After-tiles.
use borrow.Author.Rules.{rules}
use native.Mathlib.Omega.{arith}
use Prim.Native.Nat.{◌*◌, ◌-◌, ◌≤◌, ◌<◌}
use mathlib.Core.Path.{◌≡◌, ◌∙◌}
use Rattle.tiles.specs.Tiles.{tile_step, tiles_of}
use Rattle.turn.specs.Turn.{scene_maps}
use Rattle.scene.proofs.RunLaws.{After-tiles, start-tiles, turn_at, lies, next-with, full-with, all-tiles, few_products, still_in}
use Rattle.tiles.proofs.TilesLaws.{some-tile}
use Rattle.scene.proofs.run.run.Given as goal

abbrev pub invariant-loop-k : goal.invariant-loop-k
invariant-loop-k l =
    (l.across ≡ tiles_of tile_step l.cols) × (l.total ≡ tiles_of tile_step l.rows * tiles_of tile_step l.cols)
    × After-tiles (scene_maps l.set l.th l.rows l.cols l.octave l.l0 l.l1 l.l2 l.l3) l.initial.t0 l.initial.t1 l.initial.t2 l.initial.t3 l.initial.out l.k l.done l.t0 l.t1 l.t2 l.t3 l.out

abbrev pub decreases-loop-k : goal.decreases-loop-k
decreases-loop-k l =
    l.total - l.k
