-- `parts::fresh` meets its contract.
use mathlib.Core.Path.{refl}
use Rattle.probe.specs.Probe.{fresh_of}
use Rattle.probe.proofs.parts.fresh.Goals as goal

pub returns : goal.returns
unfolding fresh_of
returns c = refl
