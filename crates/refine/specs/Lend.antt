-- What the refinement leaves of the spot that it is given. Definitions only.
use Rattle.std.specs.Prelude.{List, true, false, Float, Option, Some, None}
use Rattle.tables.specs.declared.Set.{Set}
use Rattle.refine.specs.Refine.{refine_of}
use Rattle.refine.specs.declared.Spot.{Spot}
use Rattle.refine.specs.declared.lend.Settled.{Settled}

-- what an answer leaves: the spot accepted, or the spot that was passed
unfoldable pub left_of : Spot → Option Spot → Settled
left_of spot (Some found) = record { spot = found; ok = true }
left_of spot None = record { spot = spot; ok = false }

-- the spot that the refinement leaves, and whether it accepted
unfoldable pub lent_of : Set → Float → List (List Float) → Spot → Settled
lent_of set ratio k spot = left_of spot (refine_of set ratio k spot)
