-- An accepted spot lies on its map. Assumes nothing: the pixel is off each side, and a displacement of at most 0.6 stays on the side (Displaced).
use Rattle.std.specs.Prelude.{Some}
use Prim.Native.Nat.{ℕ, ◌≤◌}
use native.Mathlib.Omega.{arith}
use mathlib.Core.Path.{◌≡◌, sym, subst}
use mathlib.Core.Bool.{Bool, true}
use mathlib.Core.List.{List}
use lib.Ieee.{Float}
use Rattle.float.specs.Small.{finite}
use Rattle.tables.specs.declared.Set.{Set}
use Rattle.fit.specs.Prims.{Prims}
use Rattle.refine.specs.Refine.{refine_by}
use Rattle.refine.specs.declared.Spot.{Spot}
use Rattle.refine.proofs.RefineLaws.{accepted_displaced}
use Rattle.record.specs.Readable.{on_side}
use Rattle.pixel.specs.declared.Frame.{Frame}
use Rattle.pixel.specs.Verdict.{anchor_of}
use Rattle.samples.specs.Level.{Within}
use Rattle.admission.specs.Place.{OnMap}
use Rattle.admission.proofs.Displaced.{displaced_on_side}

-- the two things that hold of a displaced pixel, of a float that is equal to it
pair_on : (n : ℕ) (x y : Float) → x ≡ y → (finite y ≡ true) × (on_side n y ≡ true) → (finite x ≡ true) × (on_side n x ≡ true)
pair_on n x y e p = subst (λ (z : Float). (finite z ≡ true) × (on_side n z ≡ true)) (sym e) p

-- A spot accepted at a judged pixel, at least four off each side, lies on its map of sides to 4,096, whatever the set, the cubics, the sigma, the threshold and the choice of zeros.
pub accepted-on-map : (p : Prims) (s : Set) (ratio : Float) (k : List (List Float)) (f : Frame) (row col : ℕ) (sigma peak : Float) (octave : ℕ) (is_max : Bool) (spot : Spot)
    → f.rows ≤ 4096 → f.cols ≤ 4096 → Within 4 f row col
    → refine_by p s ratio k (anchor_of row col sigma peak octave is_max) ≡ Some spot → OnMap f spot
unfolding anchor_of
accepted-on-map p s ratio k f row col sigma peak octave is_max spot rows-most cols-most inside h =
    let moved = accepted_displaced p s ratio k (anchor_of row col sigma peak octave is_max) spot h in
    let across = pair_on f.cols spot.x _ moved.x (displaced_on_side f.cols col _ (omega arith) (omega arith) (omega arith) moved.x-passes) in
    let down = pair_on f.rows spot.y _ moved.y (displaced_on_side f.rows row _ (omega arith) (omega arith) (omega arith) moved.y-passes) in
    record { x-finite = across.0; y-finite = down.0; x = across.1; y = down.1 }
