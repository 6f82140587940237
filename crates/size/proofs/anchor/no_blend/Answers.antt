-- `no_blend` meets its contract.
use Rattle.size.specs.Correct.{no_blend}
use Rattle.size.proofs.anchor.no_blend.Goals as goal

pub returns : goal.returns
unfolding no_blend
returns c = rw (← c.is_finite.ensures, ← c.is_finite-2.ensures)
