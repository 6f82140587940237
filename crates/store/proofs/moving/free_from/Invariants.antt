-- `moving::free_from` meets its contract.
use mathlib.Core.Path.{◌≡◌}
use lib.ListN.{length}
use Rattle.store.specs.Steps.{freed}
use Rattle.store.proofs.moving.free_from.Given as goal

abbrev pub invariant-loop-k : goal.invariant-loop-k
invariant-loop-k l = (length l.b ≡ length l.initial.b) × (freed l.initial.b l.i ≡ freed l.b l.k)
