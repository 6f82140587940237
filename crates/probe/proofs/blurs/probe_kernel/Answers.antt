-- `probe_kernel` meets its contract.
use Rattle.kernels.specs.Kernel.{kernel_to}
use Rattle.kernels.proofs.Radii.{radius_most}
use borrow.Author.Rules.{rules}
use Rattle.probe.proofs.blurs.probe_kernel.Goals as goal

pub part-requires : goal.part-requires
unfolding kernel_to
part-requires c = rw c.octave_kernel.ensures (radius_most _)

pub returns : goal.returns
returns c = rw (← c.octave_kernel.ensures) c.part.ensures
