-- `samples` meets its contract.
use Rattle.gather.proofs.StepLaws.{samples_listed}
use Rattle.gather.proofs.samples.Goals as goal

pub returns : goal.returns
returns c = samples_listed _ _ _ _ _ _ c.stencil.ensures c.stencil-2.ensures c.stencil-3.ensures c.stencil-4.ensures
