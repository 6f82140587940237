-- `probe_spatial` meets its contract.
use Rattle.probe.specs.Probe.{spatial_part}
use Rattle.probe.proofs.Numbers.{nine_taken}
use borrow.Author.Rules.{rules}
use Rattle.probe.proofs.probe_spatial.Goals as goal

pub returns : goal.returns
unfolding spatial_part
returns c = rw (c.number_at.ensures, c.fit_spatial_quadratic-w.ensures, c.held_in.ensures, c.numbers.ensures, nine_taken c.args.values.now)
