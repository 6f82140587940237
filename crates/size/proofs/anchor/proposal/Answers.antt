-- `proposal` meets its contract.
use Rattle.size.specs.Correct.{proposal_of}
use Rattle.size.proofs.anchor.proposal.Goals as goal

pub returns-then-is_finite : goal.returns-then-is_finite
unfolding proposal_of
returns-then-is_finite c = rw (← c.is_finite.ensures, c.if-is_finite.true)

pub returns-else-is_finite : goal.returns-else-is_finite
unfolding proposal_of
returns-else-is_finite c = rw (← c.is_finite.ensures, c.if-is_finite.false)
