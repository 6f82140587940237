-- `put` meets its contract.
use native.Mathlib.Omega.{arith}
use Rattle.gather.proofs.StepLaws.{four_written}
use Rattle.gather.proofs.put.Goals as goal

pub returns : goal.returns
returns g c = four_written c.args.x c.args.a.now c.args.m (omega arith)
