-- What the refinement keeps, what it changes, and when it rejects, whichever zeros min, max and the sums take.
use Rattle.std.specs.Prelude.{Option, Some, None}
use Prim.Native.Nat.{ℕ, zero, suc, ◌<◌}
use mathlib.Core.Path.{◌≡◌, refl}
use mathlib.Core.Bool.{Bool, true, false, false≢true, cond, ◌&&◌}
use mathlib.Core.List.{List}
use mathlib.Core.Logic.{◌⊎◌, inl, inr}
use native.Mathlib.Omega.{arith}
use lib.Ieee.{Float, lt, le}
use Rattle.float.specs.Small.{finite, abs_of}
use Rattle.float.specs.Num.{◌⊕◌, ◌⊖◌, ◌⊗◌, f2, f¼, f1e_10}
use Rattle.float.proofs.Bools.{both, all_eight, passed}
use Rattle.tables.specs.declared.Set.{Set}
use Rattle.fit.specs.Cubic.{◌at◌}
use Rattle.fit.specs.Prims.{Prims}
use Rattle.refine.specs.Refine.{values_of, edge_of, index_of, spatial_by, denominator_of, steep_of, delta_yOf, delta_xOf, nearby, placed_of, moved_of, refine_by}
use Rattle.refine.specs.declared.Spot.{Spot}
use Rattle.float.proofs.Finite.{sum-finite, difference_finite, product_finite}

-- ---- the gates on the way to an acceptance

rejected_no_spot : (found : Spot) → None ≡ Some found → ⊥
rejected_no_spot found e = let z : false ≡ true = cc in false≢true z

spared : (b : Bool) (r : Option Spot) (found : Spot) → cond b None r ≡ Some found → r ≡ Some found
spared true r found h = cc
spared false r found h = h

-- ---- what is kept and what is changed

-- found is the spot with its place displaced by dx and dy, which both pass, and the index set; all else is kept
pub record Displaced (spot : Spot) (level : ℕ) (dx dy : Float) (found : Spot) : Type 0 where
  pub x : found.x ≡ spot.x ⊕ dx
  pub y : found.y ≡ spot.y ⊕ dy
  pub x-passes : nearby dx ≡ true
  pub y-passes : nearby dy ≡ true
  pub sigma : found.sigma ≡ spot.sigma
  pub peak : found.peak ≡ spot.peak
  pub octave : found.octave ≡ spot.octave
  pub index : found.index ≡ level
  pub max : found.max ≡ spot.max
  pub dx-is : found.dx ≡ dx
  pub dy-is : found.dy ≡ dy

placed_displaces : (spot found : Spot) (index : ℕ) (dx dy : Float) → placed_of spot index dx dy ≡ Some found → Displaced spot index dx dy found
unfolding placed_of
placed_displaces spot found index dx dy h =
    let gate = passed (nearby dx && nearby dy) _ None h (rejected_no_spot found) in
    let near = both (nearby dx) (nearby dy) gate.0 in
    let e = gate.1 in
    record { x = cc; y = cc; x-passes = near.0; y-passes = near.1; sigma = cc; peak = cc; octave = cc; index = cc; max = cc; dx-is = cc; dy-is = cc }

moved_displaces : (spot found : Spot) (index : ℕ) (w : List Float) → moved_of spot index w ≡ Some found → Displaced spot index (delta_xOf w (delta_yOf w)) (delta_yOf w) found
unfolding moved_of
moved_displaces spot found index w h =
    let small = spared (lt (denominator_of w) f1e_10) _ found h in
    let flat = spared (lt (abs_of (w at 0)) f1e_10) _ found small in
    placed_displaces spot found index _ _ (passed (steep_of w spot.max) _ None flat (rejected_no_spot found)).1

-- an accepted spot is the one passed, displaced as the fit of its inner level says
pub accepted_displaced : (p : Prims) (set : Set) (most : Float) (k : List (List Float)) (spot found : Spot) → refine_by p set most k spot ≡ Some found →
    let index = index_of set.sigmas spot.sigma in
    let w = spatial_by p set index (values_of k spot.sigma) in
    Displaced spot index (delta_xOf w (delta_yOf w)) (delta_yOf w) found
unfolding refine_by
accepted_displaced p set most k spot found h = moved_displaces spot found _ _ (passed (edge_of (values_of k spot.sigma) most spot.max) _ None h (rejected_no_spot found)).1

-- the index is one of the two inner levels'
pub index_inner : (g : List Float) (sigma : Float) → (index_of g sigma ≡ 1) ⊎ (index_of g sigma ≡ 2)
unfolding index_of
index_inner g sigma = go (le sigma (g at 1))
  where
    go : (b : Bool) → (◌≡◌ {A = ℕ} (cond b 1 2) 1) ⊎ (◌≡◌ {A = ℕ} (cond b 1 2) 2)
    go true = inl refl
    go false = inr refl

-- ---- the nine values

nine : (v : List Float) → finite (v at 0) ≡ true → finite (v at 1) ≡ true → finite (v at 2) ≡ true → finite (v at 3) ≡ true → finite (v at 4) ≡ true
    → finite (v at 5) ≡ true → finite (v at 6) ≡ true → finite (v at 7) ≡ true → finite (v at 8) ≡ true → (i : ℕ) → i < 9 → finite (v at i) ≡ true
nine v a b c d e f g h j zero l = a
nine v a b c d e f g h j (suc zero) l = b
nine v a b c d e f g h j (suc (suc zero)) l = c
nine v a b c d e f g h j (suc (suc (suc zero))) l = d
nine v a b c d e f g h j (suc (suc (suc (suc zero)))) l = e
nine v a b c d e f g h j (suc (suc (suc (suc (suc zero))))) l = f
nine v a b c d e f g h j (suc (suc (suc (suc (suc (suc zero)))))) l = g
nine v a b c d e f g h j (suc (suc (suc (suc (suc (suc (suc zero))))))) l = h
nine v a b c d e f g h j (suc (suc (suc (suc (suc (suc (suc (suc zero)))))))) l = j
nine v a b c d e f g h j (suc (suc (suc (suc (suc (suc (suc (suc (suc i))))))))) l = let no : ⊥ = omega arith in absurd no

-- nine values whose Hessian passes are finite: each enters it
pub edge_finite : (v : List Float) (most : Float) (is_max : Bool) → edge_of v most is_max ≡ true → (i : ℕ) → i < 9 → finite (v at i) ≡ true
unfolding edge_of
edge_finite v most is_max t =
    let gxx = v at 3 ⊖ f2 ⊗ v at 4 ⊕ v at 5 in
    let gyy = v at 1 ⊖ f2 ⊗ v at 4 ⊕ v at 7 in
    let gxy = f¼ ⊗ (v at 0 ⊕ v at 8 ⊖ v at 6 ⊖ v at 2) in
    let three = all_eight (finite gxx) (finite gyy) (finite gxy) _ _ _ _ _ (both _ _ t).0 in
    let row = sum-finite (v at 3 ⊖ f2 ⊗ v at 4) (v at 5) three.0 in
    let left = difference_finite (v at 3) (f2 ⊗ v at 4) row.0 in
    let column = sum-finite (v at 1 ⊖ f2 ⊗ v at 4) (v at 7) three.1 in
    let up = difference_finite (v at 1) (f2 ⊗ v at 4) column.0 in
    let corners = difference_finite (v at 0 ⊕ v at 8 ⊖ v at 6) (v at 2) (product_finite f¼ _ three.2).1 in
    let low = difference_finite (v at 0 ⊕ v at 8) (v at 6) corners.0 in
    let ends = sum-finite (v at 0) (v at 8) low.0 in
    nine v ends.0 up.0 corners.1 left.0 (product_finite f2 (v at 4) left.1).1 row.1 low.1 column.1 ends.1

-- an accepted spot's nine values are finite
pub accepted-finite : (p : Prims) (set : Set) (most : Float) (k : List (List Float)) (spot found : Spot) → refine_by p set most k spot ≡ Some found → (i : ℕ) → i < 9 → finite (values_of k spot.sigma at i) ≡ true
unfolding refine_by
accepted-finite p set most k spot found h = edge_finite (values_of k spot.sigma) most spot.max (passed (edge_of (values_of k spot.sigma) most spot.max) _ None h (rejected_no_spot found)).0

-- so a value that is not finite rejects
pub unfinite_rejects : (p : Prims) (set : Set) (most : Float) (k : List (List Float)) (spot : Spot) (i : ℕ) → i < 9 → finite (values_of k spot.sigma at i) ≡ false → refine_by p set most k spot ≡ None
unfinite_rejects p set most k spot i h lost = go (refine_by p set most k spot) (accepted-finite p set most k spot)
  where
    go : (r : Option Spot) → ((found : Spot) → r ≡ Some found → (i : ℕ) → i < 9 → finite (values_of k spot.sigma at i) ≡ true) → r ≡ None
    go (Some found) f = let held = f found refl i h in cc
    go None f = refl
