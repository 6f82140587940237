-- `sample_by` meets its contract.
use Rattle.samples.specs.Level.{stencil_of}
use Rattle.nine.specs.Nine.{stencil_by, sample_by}
use Rattle.nine.proofs.sample_by.Goals as goal

pub returns : goal.returns
unfolding sample_by stencil_by stencil_of
returns c = c.stencil.ensures
