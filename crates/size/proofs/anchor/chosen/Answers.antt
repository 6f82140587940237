-- `chosen` meets its contract.
use Rattle.size.specs.Correct.{chosen_of}
use Rattle.size.proofs.anchor.chosen.Goals as goal

pub returns-then-model-bounded : goal.returns-then-model-bounded
unfolding chosen_of
returns-then-model-bounded c = rw (← c.is_better.ensures, c.if-model-bounded.true) c.sigma_at.ensures

pub returns-else-model-bounded : goal.returns-else-model-bounded
unfolding chosen_of
returns-else-model-bounded c = rw (← c.is_better.ensures, c.if-model-bounded.false)
