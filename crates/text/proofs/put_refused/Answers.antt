-- `put_refused` meets its contract.
use Rattle.text.specs.Text.{refused_line}
use Rattle.text.proofs.put_refused.Goals as goal

pub returns : goal.returns
unfolding refused_line
returns c = c.put_counted.ensures
