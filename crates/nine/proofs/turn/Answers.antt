-- `turn` meets its contract.
use Rattle.nine.specs.Nine.{turned}
use Rattle.nine.proofs.turn.Goals as goal

pub returns : goal.returns
unfolding turned
returns c = rw (c.across.ensures, c.across-2.ensures, c.across-3.ensures, c.across-4.ensures, c.across-5.ensures, c.across-6.ensures, c.across-7.ensures, c.across-8.ensures, c.across-9.ensures)
