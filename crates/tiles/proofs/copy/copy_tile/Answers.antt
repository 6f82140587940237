-- `copy::copy_tile` meets its contract. The loop's invariant: the first c columns are stored.
use mathlib.Core.Path.{◌≡◌, refl, ap, ◌∙◌}
use native.Mathlib.Omega.{arith}
use lib.ListN.{length}
use lib.Seq.{length-sets}
use Rattle.tiles.specs.Copy.{gather, tile_level}
use Rattle.tiles.proofs.CopyLaws.{cut_column, tile-next}
use Rattle.tiles.proofs.copy.copy_tile.Goals as goal

pub loop-c-init : goal.loop-c-init
unfolding tile_level gather
loop-c-init c = (omega arith, refl)

pub overflow_add-c0 : goal.overflow_add-c0
overflow_add-c0 c = let p = c.requires in omega (arith, p.wide, c.loop-c-test.true)

pub overflow_mul-c0 : goal.overflow_mul-c0
overflow_mul-c0 c = let p = c.requires in omega (arith, p.most, (cut_column c.loop-c.c p c.loop-c-test.true).0)

pub overflow_add-c0-in-loop-c : goal.overflow_add-c0-in-loop-c
overflow_add-c0-in-loop-c c = let p = c.requires in omega (arith, p.most, (cut_column c.loop-c.c p c.loop-c-test.true).0)

pub overflow_mul-c : goal.overflow_mul-c
overflow_mul-c c = let p = c.requires in omega (arith, (cut_column c.loop-c.c p c.loop-c-test.true).1)

pub copy_column-requires : goal.copy_column-requires
copy_column-requires c =
    let a = c.args in
    let l = c.loop-c in
    let inside = cut_column l.c c.requires c.loop-c-test.true in
    let long = ap length l.invariant.1 ∙ length-sets a.out.now 0 (tile_level a.level.now a.rows a.r0 a.c0 a.h l.c) in
    record { n_in_bounds = inside.0; n_in_bounds_2 = omega (arith, inside.1) }

pub loop-c-smaller : goal.loop-c-smaller
loop-c-smaller c = omega arith

pub loop-c-preserved : goal.loop-c-preserved
loop-c-preserved c =
    let a = c.args in
    let l = c.loop-c in
    (omega arith, c.copy_column.ensures ∙ rw l.invariant.1 (tile-next a.level.now a.out.now c.requires l.c c.loop-c-test.true))

pub shape_of-out : goal.shape_of-out
shape_of-out c =
    let a = c.args in
    ap length c.loop-c.invariant.1 ∙ length-sets a.out.now 0 (tile_level a.level.now a.rows a.r0 a.c0 a.h c.loop-c.c)

pub returns : goal.returns
returns c = let end : c.loop-c.c ≡ c.args.w = omega arith in rw end at c.loop-c.invariant.1
