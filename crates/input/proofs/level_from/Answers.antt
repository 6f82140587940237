-- `level_from` meets its contract.
use Prim.Native.Nat.{ℕ, ◌≤◌}
use native.Mathlib.Omega.{arith}
use mathlib.Core.Path.{◌≡◌, sym}
use lib.ListN.{length, take, replicate, length-replicate}
use lib.Seq.{length-take-le}
use lib.Ieee.{binary32, of_bits}
use Rattle.input.specs.Input.{level_array}
use Rattle.input.proofs.InputLaws.{checks_tile, level_most, level_within, level_read}
use Rattle.input.proofs.level_from.Goals as goal

-- the part that is lent is as long as the level
room : (n : ℕ) → n ≤ 3600 → length (take n (replicate 3600 (of_bits binary32 0))) ≡ n
room n most = length-take-le n (replicate 3600 (of_bits binary32 0)) (rw length-replicate most)

pub overflow_mul-k : goal.overflow_mul-k
overflow_mul-k c = omega (arith, level_most c.requires.k_bound c.area_from-n.ensures.1)

pub overflow_add-k : goal.overflow_add-k
overflow_add-k c = omega (arith, level_most c.requires.k_bound c.area_from-n.ensures.1)

pub slice_bounds-read_floats-end : goal.slice_bounds-read_floats-end
slice_bounds-read_floats-end c = sym (room _ c.area_from-n.ensures.1)

pub read_floats-requires : goal.read_floats-requires
read_floats-requires c =
    let t = checks_tile _ c.requires.input_value in
    rw (room _ c.area_from-n.ensures.1, t.long, ← c.area_from-n.ensures.0) (omega (arith, level_within c.args.k c.area_from-n.result c.requires.k_bound))

pub returns : goal.returns
unfolding level_array
returns c =
    let n = c.area_from-n in
    level_read _ _ _ _ n.result (length-replicate 3600 (of_bits binary32 0)) n.ensures.1 n.ensures.0 c.read_floats.ensures
