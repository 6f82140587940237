-- `parts::parts_of` meets its contract.
use mathlib.Core.Path.{refl}
use Rattle.probe.specs.Probe.{parts_of}
use Rattle.probe.proofs.parts.parts_of.Goals as goal

pub returns : goal.returns
unfolding parts_of
returns c = refl
