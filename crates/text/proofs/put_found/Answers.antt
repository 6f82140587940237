-- `put_found` meets its contract.
use Rattle.text.specs.Text.{found_line}
use Rattle.text.proofs.put_found.Goals as goal

pub returns : goal.returns
unfolding found_line
returns c = c.put_counted.ensures
