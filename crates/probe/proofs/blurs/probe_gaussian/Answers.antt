-- `probe_gaussian` meets its contract.
use Rattle.kernels.proofs.Radii.{radius_most}
use borrow.Author.Rules.{rules}
use Rattle.probe.proofs.blurs.probe_gaussian.Goals as goal

pub part-requires : goal.part-requires
part-requires c = rw c.gaussian.ensures (radius_most _)

pub returns : goal.returns
returns c = rw (← c.gaussian.ensures) c.part.ensures
