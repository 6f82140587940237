-- `logexp::exponential::step` meets its contract. Assumes nothing.
use mathlib.Core.Path.{refl}
use native.Mathlib.Omega.{arith}
use Rattle.logexp.proofs.Steps.{step-le, step-lt}
use Rattle.logexp.proofs.exponential.step.Goals as goal

pub overflow_mul-result : goal.overflow_mul-result
overflow_mul-result c = omega (arith, step-lt c.args.u c.args.p c.requires.1 c.requires.2)

pub overflow_add-result : goal.overflow_add-result
overflow_add-result c = omega (arith, step-le c.args.u c.args.p c.requires.1)

pub returns : goal.returns
returns c = (refl, omega (arith, step-le c.args.u c.args.p c.requires.1))
