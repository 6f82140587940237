-- `place::place_all` meets its contract. The loop's invariant: Going.
use native.Mathlib.Omega.{arith}
use Prim.Native.Nat.{◌-◌, ◌≤◌}
use mathlib.Core.Path.{◌≡◌}
use Rattle.tile.proofs.PlaceLaws.{Going, going_start, reads_next, going_next, going_end}
use Rattle.tile.proofs.place.place_all.Goals as goal

pub loop-k-init : goal.loop-k-init
loop-k-init c = (omega arith, going_start c.args.set c.args.i c.args.j c.args.out.now c.args.base c.args.n)

pub overflow_mul-n : goal.overflow_mul-n
overflow_mul-n c = omega (arith, c.requires.place, c.loop-k-test.true)

pub overflow_add-base : goal.overflow_add-base
overflow_add-base c = omega (arith, c.requires.place, c.loop-k-test.true)

pub overflow_mul-k : goal.overflow_mul-k
overflow_mul-k c = omega (arith, c.requires.place, c.loop-k-test.true)

pub overflow_add-base-in-loop-k : goal.overflow_add-base-in-loop-k
overflow_add-base-in-loop-k c = omega (arith, c.requires.place, c.loop-k-test.true)

pub overflow_mul-k-in-loop-k : goal.overflow_mul-k-in-loop-k
overflow_mul-k-in-loop-k c = omega (arith, c.requires.place, c.loop-k-test.true)

pub overflow_add-base-in-loop-k-2 : goal.overflow_add-base-in-loop-k-2
overflow_add-base-in-loop-k-2 c = omega (arith, c.requires.place, c.loop-k-test.true)

pub place_record-requires : goal.place_record-requires
place_record-requires c =
    let a = c.args in
    let p = c.requires in
    let l = c.loop-k in
    let room = p.place in
    let long = l.invariant.1.long in
    let below = c.loop-k-test.true in
    record {
      down = p.down;
      right = p.right;
      source = omega arith;
      place = omega arith;
      placed = rw (reads_next a.set a.i a.j a.out.now a.base a.n l.out l.k l.invariant.1) (p.placed l.k below);
    }

pub loop-k-smaller : goal.loop-k-smaller
loop-k-smaller c = omega arith

pub loop-k-preserved : goal.loop-k-preserved
loop-k-preserved c =
    let a = c.args in
    let l = c.loop-k in
    (omega arith, going_next a.set a.i a.j a.out.now a.base a.n l.out _ l.k c.loop-k-test.true c.requires.place l.invariant.1 c.place_record.ensures)

pub shape_of-out : goal.shape_of-out
shape_of-out c = c.loop-k.invariant.1.long

pub returns : goal.returns
returns c =
    let a = c.args in
    let l = c.loop-k in
    let end : l.k ≡ a.n = omega arith in
    going_end a.set a.i a.j a.out.now a.base a.n l.out c.requires.place (rw end at l.invariant.1)
