-- `block` meets its contract: the four columns of the ring, and what is left of the block between them.
use Prim.Native.Nat.{◌+◌}
use native.Mathlib.Omega.{arith}
use Rattle.samples.specs.Map.{four_in}
use Rattle.ring.proofs.RingLaws.{ring_beside}
use Rattle.rule.proofs.RuleLaws.{part_left}
use Rattle.rule.proofs.block.Goals as goal

pub overflow_add-s-2 : goal.overflow_add-s-2
overflow_add-s-2 c = omega (arith, c.args.column.now.small.1)

pub slot-x-requires : goal.slot-x-requires
slot-x-requires c = let p = c.requires in (c.args.column.now.lent.rows-most, omega (arith, p.n_bound.1))

pub overflow_add-s-3 : goal.overflow_add-s-3
overflow_add-s-3 c = omega (arith, c.args.column.now.small.1)

pub slot-y-requires : goal.slot-y-requires
slot-y-requires c = let p = c.requires in (c.args.column.now.lent.rows-most, omega (arith, p.n_bound.1))

pub overflow_add-s-4 : goal.overflow_add-s-4
overflow_add-s-4 c = omega (arith, c.args.column.now.small.1)

pub slot-z-requires : goal.slot-z-requires
slot-z-requires c = let p = c.requires in (c.args.column.now.lent.rows-most, omega (arith, p.n_bound.1))

pub mark_block-requires : goal.mark_block-requires
mark_block-requires c =
    let u = c.slot-u.ensures in
    let x = c.slot-x.ensures in
    let y = c.slot-y.ensures in
    let z = c.slot-z.ensures in
    let p = c.requires in
    record { beside = ring_beside (c.args.j + 3) c.args.n c.args.column.now.lent (omega arith) (omega (arith, p.n_bound.1)) (u.1, u.2) (x.1, x.2) (y.1, y.2) (z.1, z.2); n_bound = p.n_bound.0 }

pub returns : goal.returns
returns c =
    let a = c.args in
    let left = c.mark_block.ensures in (
      part_left a.column.now.state (four_in a.column.now.ring) (four_in a.column.now.given) a.j c.requires.le_position
          c.slot-u.ensures.0 c.slot-x.ensures.0 c.slot-y.ensures.0 c.slot-z.ensures.0 left.0,
      left.1,
    )
