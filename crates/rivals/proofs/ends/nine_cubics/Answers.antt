-- `ends::nine_cubics` meets its contract.
use native.Mathlib.Omega.{arith}
use Rattle.rivals.specs.Ends.{nine_in}
use Rattle.rivals.proofs.ends.nine_cubics.Goals as goal

pub overflow_add-z-4 : goal.overflow_add-z-4
overflow_add-z-4 c = let p = c.requires in omega (arith, p.z_bound)

pub overflow_add-z-5 : goal.overflow_add-z-5
overflow_add-z-5 c = let p = c.requires in omega (arith, p.z_bound)

pub cubic_at-requires-9 : goal.cubic_at-requires-9
cubic_at-requires-9 c = let p = c.requires in omega (arith, p.z_bound)

pub returns : goal.returns
unfolding nine_in
returns c = rw (c.cubic_at-9.ensures, c.cubic_at-8.ensures, c.cubic_at-7.ensures, c.cubic_at-6.ensures, c.cubic_at-5.ensures, c.cubic_at-4.ensures, c.cubic_at-3.ensures, c.cubic_at-2.ensures, c.cubic_at.ensures)
