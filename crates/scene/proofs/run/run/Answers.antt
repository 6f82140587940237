-- `run::run` meets its contract. The loop's invariant: After-tiles.
use borrow.Author.Rules.{rules}
use native.Mathlib.Omega.{arith}
use Prim.Native.Nat.{◌*◌, ◌-◌, ◌≤◌, ◌<◌}
use mathlib.Core.Path.{◌≡◌, ◌∙◌}
use Rattle.tiles.specs.Tiles.{tile_step, tiles_of}
use Rattle.turn.specs.Turn.{scene_maps}
use Rattle.scene.proofs.RunLaws.{After-tiles, start-tiles, turn_at, lies, next-with, full-with, all-tiles, few_products, still_in}
use Rattle.tiles.proofs.TilesLaws.{some-tile}
use Rattle.scene.proofs.run.run.Goals as goal

pub overflow_mul-total : goal.overflow_mul-total
overflow_mul-total c =
    let a = c.args in
    let f : c.tiles_of.result * c.tiles_of-across.result ≤ 25 = rw (c.tiles_of.ensures, c.tiles_of-across.ensures) (few_products a.rows a.cols c.requires.rows-most c.requires.cols-most) in
    omega (arith, f)

pub loop-k-init : goal.loop-k-init
loop-k-init c =
    let a = c.args in
    (c.tiles_of-across.ensures, rw (c.tiles_of.ensures, c.tiles_of-across.ensures), start-tiles (scene_maps a.set a.th a.rows a.cols a.octave a.l0.now a.l1.now a.l2.now a.l3.now) a.t0.now a.t1.now a.t2.now a.t3.now a.out.now)

-- div-turn : tie.Need-nonzero-div-turn invariant-loop decreases-loop
-- div-turn c = omega (arith, c.before.before.before.tiles-of.ensures, some-tile tile_step c.before.before.before.before.before.before.before.before.before.before.before.before.before.args.cols)

-- rem-turn : tie.Need-nonzero-rem-turn invariant-loop decreases-loop
-- rem-turn c = omega (arith, c.before.before.before.tiles-of.ensures, some-tile tile_step c.before.before.before.before.before.before.before.before.before.before.before.before.before.args.cols)

pub turn-told-requires : goal.turn-told-requires
turn-told-requires c =
    let a = c.args in
    let l = c.loop-k in
    let g = l.invariant.2 in
    let below : l.k < tiles_of tile_step a.rows * tiles_of tile_step a.cols = omega (arith, l.invariant.1, c.loop-k-test.true) in
    let at = turn_at (scene_maps a.set a.th a.rows a.cols a.octave a.l0.now a.l1.now a.l2.now a.l3.now) a.t0.now a.t1.now a.t2.now a.t3.now a.out.now l.k below in
    record {
      scene_in = still_in c.requires g.same0 g.same1 g.same2 g.same3;
      turn = record {
        down = rw c.tiles_of-across.ensures at.0;
        right = rw c.tiles_of-across.ensures at.1;
        lies = lies (scene_maps a.set a.th a.rows a.cols a.octave a.l0.now a.l1.now a.l2.now a.l3.now) a.t0.now a.t1.now a.t2.now a.t3.now a.out.now l.k l.done l.t0 l.t1 l.t2 l.t3 l.out l.invariant.2 below;
      };
    }

pub shape_of-t0-in_default : goal.shape_of-t0-in_default
shape_of-t0-in_default c = c.turn-told.ensures.same0 ∙ c.loop-k.invariant.2.same0

pub shape_of-t1-in_default : goal.shape_of-t1-in_default
shape_of-t1-in_default c = c.turn-told.ensures.same1 ∙ c.loop-k.invariant.2.same1

pub shape_of-t2-in_default : goal.shape_of-t2-in_default
shape_of-t2-in_default c = c.turn-told.ensures.same2 ∙ c.loop-k.invariant.2.same2

pub shape_of-t3-in_default : goal.shape_of-t3-in_default
shape_of-t3-in_default c = c.turn-told.ensures.same3 ∙ c.loop-k.invariant.2.same3

pub shape_of-out-in_default : goal.shape_of-out-in_default
shape_of-out-in_default c = c.turn-told.ensures.same_out ∙ c.loop-k.invariant.2.same_out

pub returns-in_default : goal.returns-in_default
returns-in_default c =
    let a = c.args in
    let l = c.loop-k in
    let below : l.k < tiles_of tile_step a.rows * tiles_of tile_step a.cols = omega (arith, l.invariant.1, c.loop-k-test.true) in
    full-with (scene_maps a.set a.th a.rows a.cols a.octave a.l0.now a.l1.now a.l2.now a.l3.now) a.t0.now a.t1.now a.t2.now a.t3.now a.out.now l.k l.done l.t0 l.t1 l.t2 l.t3 l.out l.invariant.2 below _ c.tiles_of-across.ensures _ _ _ _ _ c.turn-told.result c.turn-told.ensures c.in_default.is

pub loop-k-smaller : goal.loop-k-smaller
loop-k-smaller c = omega arith

pub loop-k-preserved : goal.loop-k-preserved
loop-k-preserved c =
    let a = c.args in
    let l = c.loop-k in
    let below : l.k < tiles_of tile_step a.rows * tiles_of tile_step a.cols = omega (arith, l.invariant.1, c.loop-k-test.true) in
    (l.invariant.0, l.invariant.1, next-with (scene_maps a.set a.th a.rows a.cols a.octave a.l0.now a.l1.now a.l2.now a.l3.now) a.t0.now a.t1.now a.t2.now a.t3.now a.out.now l.k l.done l.t0 l.t1 l.t2 l.t3 l.out l.invariant.2 below _ c.tiles_of-across.ensures _ _ _ _ _ c.turn-told.result c.turn-told.ensures _ c.in-Some.is)

pub shape_of-t0 : goal.shape_of-t0
shape_of-t0 c = c.loop-k.invariant.2.same0

pub shape_of-t1 : goal.shape_of-t1
shape_of-t1 c = c.loop-k.invariant.2.same1

pub shape_of-t2 : goal.shape_of-t2
shape_of-t2 c = c.loop-k.invariant.2.same2

pub shape_of-t3 : goal.shape_of-t3
shape_of-t3 c = c.loop-k.invariant.2.same3

pub shape_of-out : goal.shape_of-out
shape_of-out c = c.loop-k.invariant.2.same_out

pub returns : goal.returns
returns c =
    let a = c.args in
    let l = c.loop-k in
    let g = l.invariant.2 in
    let end : l.k ≡ tiles_of tile_step a.rows * tiles_of tile_step a.cols = omega (arith, l.invariant.1, c.loop-k-test.false, g.some) in
    all-tiles (scene_maps a.set a.th a.rows a.cols a.octave a.l0.now a.l1.now a.l2.now a.l3.now) a.t0.now a.t1.now a.t2.now a.t3.now a.out.now l.done l.t0 l.t1 l.t2 l.t3 l.out (rw end at g)
