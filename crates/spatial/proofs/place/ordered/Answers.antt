-- `place::ordered` meets its contract.
use Rattle.spatial.proofs.FitSteps.{nine_ordered}
use native.Mathlib.Omega.{arith}
use Rattle.spatial.proofs.place.ordered.Goals as goal

pub returns : goal.returns
returns c =
    nine_ordered c.args.order c.args.v.now (omega arith) c.value_named.ensures c.value_named-2.ensures c.value_named-3.ensures c.value_named-4.ensures c.value_named-5.ensures c.value_named-6.ensures c.value_named-7.ensures c.value_named-8.ensures c.value_named-9.ensures
