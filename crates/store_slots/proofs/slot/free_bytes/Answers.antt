-- `slot::free_bytes` meets its contract.
use mathlib.Core.Path.{refl}
use Rattle.store_slots.specs.Slots.{free_bytes}
use Rattle.store_slots.proofs.slot.free_bytes.Goals as goal

pub returns : goal.returns
unfolding free_bytes
returns c = refl
