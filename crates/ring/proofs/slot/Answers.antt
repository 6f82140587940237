-- `slot` meets its contract.
use mathlib.Core.Path.{refl}
use native.Mathlib.Omega.{arith}
use Rattle.ring.proofs.RingLaws.{slot-room}
use Rattle.ring.proofs.slot.Goals as goal

pub overflow_mul-result : goal.overflow_mul-result
overflow_mul-result c = omega (arith, slot-room c.args.rows c.args.n)

pub overflow_add-result : goal.overflow_add-result
overflow_add-result c = omega (arith, slot-room c.args.rows c.args.n)

pub returns : goal.returns
returns c = (refl, omega arith, omega (arith, slot-room c.args.rows c.args.n))
