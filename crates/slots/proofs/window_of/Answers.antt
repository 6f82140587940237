-- `window_of` meets its contract.
use Rattle.slots.proofs.window_of.Goals as goal

pub returns : goal.returns
returns c = rw c.is_within.ensures
