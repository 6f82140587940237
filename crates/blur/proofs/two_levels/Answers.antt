-- `two_levels` meets its contract. The loop's invariant: the first c columns of both are stored.
use native.Mathlib.Omega.{arith}
use mathlib.Core.Path.{◌≡◌, refl}
use native.Mathlib.Numerals.{add-one}
use Prim.Native.Nat.{◌+◌, ◌*◌}
use lib.ListN.{length}
use Rattle.grid.specs.Grid.{columns_of}
use Rattle.grid.proofs.GridLaws.{length-columns, columns-none}
use Rattle.grid.proofs.StoredLaws.{stored-none, stored-append, stored-length}
use Rattle.blur.specs.Blur.{level_at, level_of}
use Rattle.blur.proofs.two_levels.Goals as goal

pub returns-then-rows-eq0 : goal.returns-then-rows-eq0
unfolding level_of
returns-then-rows-eq0 c = let e : c.args.rows ≡ 0 = c.if-rows-eq0.true in rw (e, columns-none, columns-none) (stored-none, stored-none)

pub loop-c-init : goal.loop-c-init
unfolding columns_of
loop-c-init c = (omega arith, refl, refl, stored-none, stored-none)

pub column-requires : goal.column-requires
column-requires c =
    let p = c.requires in
    let l = c.loop-c in
    record {
      map = record { tall = omega (arith, c.if-rows-eq0.false); rows-most = p.plane.rows-most; cols-most = p.plane.cols-most; inside = c.loop-c-test.true; long = p.plane.long };
      radii = p.radii;
      a_len = (l.invariant.1, l.invariant.2);
      cols_in_bounds = (omega (arith, p.plane.room_a, stored-length l.invariant.3), omega (arith, p.plane.room_b, stored-length l.invariant.4));
    }

pub loop-c-preserved : goal.loop-c-preserved
unfolding columns_of
loop-c-preserved c =
    let a = c.args in
    let l = c.loop-c in
    let drawn = c.column.ensures in
    let next : l.c * a.rows ≡ 0 + length (columns_of (level_at a.raw.now a.rows a.cols a.j) a.rows l.c) = omega (arith, length-columns (level_at a.raw.now a.rows a.cols a.j) a.rows l.c) in
    let next' : l.c * a.rows ≡ 0 + length (columns_of (level_at a.raw.now a.rows a.cols a.k) a.rows l.c) = omega (arith, length-columns (level_at a.raw.now a.rows a.cols a.k) a.rows l.c) in
    (omega arith, drawn.a_long, drawn.b_long, rw add-one (stored-append l.invariant.3 next drawn.first), rw add-one (stored-append l.invariant.4 next' drawn.second))

pub shape_of-x : goal.shape_of-x
shape_of-x c = stored-length c.loop-c.invariant.3

pub shape_of-y : goal.shape_of-y
shape_of-y c = stored-length c.loop-c.invariant.4

pub returns : goal.returns
unfolding level_of
returns c =
    let l = c.loop-c in
    let end : l.c ≡ c.args.cols = omega arith in
    (rw end at l.invariant.3, rw end at l.invariant.4)
