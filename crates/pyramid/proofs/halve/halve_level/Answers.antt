-- `halve::halve_level` meets its contract. The loop's invariant: the first c columns are stored.
use mathlib.Core.Path.{◌≡◌}
use Prim.Native.Nat.{◌+◌, ◌*◌}
use native.Mathlib.Numerals.{add-one}
use native.Mathlib.Omega.{arith}
use lib.ListN.{length}
use Rattle.grid.specs.Grid.{pixel_at, columns_of}
use Rattle.grid.proofs.GridLaws.{length-columns}
use Rattle.grid.proofs.StoredLaws.{stored-none, stored-append, stored-length}
use Rattle.pyramid.specs.Pyramid.{taken_of}
use Rattle.pyramid.proofs.HalvedLaws.{column_inside}
use Rattle.pyramid.proofs.halve.halve_level.Goals as goal

pub loop-c-init : goal.loop-c-init
unfolding columns_of
loop-c-init c = (omega arith, stored-none)

pub overflow_mul-c : goal.overflow_mul-c
overflow_mul-c c = omega (arith, c.requires.wide, c.loop-c-test.true)

pub overflow_mul-c-in-loop-c : goal.overflow_mul-c-in-loop-c
overflow_mul-c-in-loop-c c = let p = c.requires in omega (arith, p.most, (column_inside c.loop-c.c p c.loop-c-test.true).0)

pub overflow_mul-c-in-loop-c-2 : goal.overflow_mul-c-in-loop-c-2
overflow_mul-c-in-loop-c-2 c =
    let p = c.requires in
    omega (arith, (column_inside c.loop-c.c p c.loop-c-test.true).1)

pub halve_column-requires : goal.halve_column-requires
halve_column-requires c =
    let inside = column_inside c.loop-c.c c.requires c.loop-c-test.true in
    record { n_in_bounds = inside.0; n_in_bounds_2 = omega (arith, inside.1, stored-length c.loop-c.invariant.1) }

pub loop-c-preserved : goal.loop-c-preserved
unfolding columns_of pixel_at
loop-c-preserved c =
    let a = c.args in
    let l = c.loop-c in
    let next : l.c * a.height ≡ 0 + length (columns_of (taken_of a.level.now a.rows) a.height l.c) = omega (arith, length-columns (taken_of a.level.now a.rows) a.height l.c) in
    (omega arith, rw add-one (stored-append l.invariant.1 next c.halve_column.ensures))

pub shape_of-out : goal.shape_of-out
shape_of-out c = stored-length c.loop-c.invariant.1

pub returns : goal.returns
returns c = let end : c.loop-c.c ≡ c.args.width = omega arith in rw end at c.loop-c.invariant.1
