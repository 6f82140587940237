-- What the refinement keeps where the sums start at other zeros.
use Rattle.std.specs.Prelude.{None}
use mathlib.Core.Path.{◌≡◌, refl, sym, ◌∙◌, ap}
use Prim.Native.Nat.{ℕ, zero, suc}
use mathlib.Core.List.{List}
use mathlib.Core.Bool.{Bool, true, false, cond}
use lib.Ieee.{Float, lt}
use Rattle.float.specs.Small.{abs_of}
use Rattle.float.specs.Num.{◌⊕◌, ◌⊗◌, f2, f1e_10}
use Rattle.tables.specs.declared.Set.{Set}
use Rattle.fit.specs.Near.{Near, same}
use Rattle.fit.specs.Prims.{Prims, Allowed, ours}
use Rattle.fit.specs.Cubic.{◌at◌}
use Rattle.refine.specs.Refine.{values_of, edge_of, index_of, sum_from, row_sum_by, spatial_by, denominator_of, steep_of, delta_yOf, delta_xOf, nearby, placed_of, moved_of, refine_by}
use Rattle.refine.specs.declared.Spot.{Spot}
use Rattle.zeros.specs.Steps.{Steady, SpotNear, RefinedNear, rejected, accepted}
use Rattle.zeros.proofs.NearLaws.{near, add~, div~, lt~, fin~, chosen~, abs~, and~, not~, choose~, not_tiny_equal, not-small_equal}

sum~ : (n i : ℕ) (f : ℕ → Float) {a a' : Float} → Near a a' → Near (sum_from n i a f) (sum_from n i a' f)
unfolding sum_from
sum~ zero i f h = h
sum~ (suc n) i f h = sum~ n (suc i) f (add~ h same)

module _ (p : Prims) (A : Allowed p) (s : Set) (index : ℕ) (v : List Float) where
  row_sum~ : (row : ℕ) → Near (row_sum_by p s index v row) (row_sum_by ours s index v row)
  unfolding row_sum_by
  row_sum~ row = sum~ 9 0 _ (A.first row)

  pub spatial~ : (i : ℕ) → Near (spatial_by p s index v at i) (spatial_by ours s index v at i)
  unfolding spatial_by
  spatial~ zero = row_sum~ 0
  spatial~ (suc zero) = row_sum~ 1
  spatial~ (suc (suc zero)) = row_sum~ 2
  spatial~ (suc (suc (suc zero))) = row_sum~ 3
  spatial~ (suc (suc (suc (suc zero)))) = row_sum~ 4
  spatial~ (suc (suc (suc (suc (suc i))))) = same

nearby~ : {d d' : Float} → Near d d' → nearby d ≡ nearby d'
unfolding nearby
nearby~ h = and~ (fin~ h) (not~ (lt~ same (abs~ h)))

module _ {a b : Spot} (S : SpotNear a b) (x-steady : Steady a.x) (y-steady : Steady a.y) (index : ℕ) where
  placed~ : {dx dx' dy dy' : Float} → Near dx dx' → Near dy dy' → RefinedNear (placed_of a index dx dy) (placed_of b index dx' dy')
  unfolding placed_of
  placed~ {dx = dx} {dx' = dx'} {dy = dy} {dy' = dy'} h k =
      chosen~ RefinedNear (and~ (nearby~ h) (nearby~ k))
      (accepted (record {
        x = x-steady dx dx' h ∙ ap (λ (z : Float). z ⊕ dx') S.x;
        y = y-steady dy dy' k ∙ ap (λ (z : Float). z ⊕ dy') S.y;
        sigma = S.sigma;
        peak = S.peak;
        octave = S.octave;
        index = refl;
        max = S.max;
        dx = h;
        dy = k;
      }))
      rejected

  module _ (w w' : List Float) (W : (i : ℕ) → Near (w at i) (w' at i)) where
    denominator~ : Near (denominator_of w) (denominator_of w')
    unfolding denominator_of
    denominator~ = search (near, W) depth 9

    steep~ : {m m' : Bool} → m ≡ m' → steep_of w m ≡ steep_of w' m'
    unfolding steep_of
    steep~ {m = m} e = rw (← e) (steeped m) where
      steeped : (is_max : Bool) → steep_of w is_max ≡ steep_of w' is_max
      steeped is_max = and~ (and~ (and~ (and~ (fin~ (W 0)) (fin~ (W 1))) (fin~ (W 2))) (fin~ denominator~)) (choose~ is_max (lt~ (W 0) same) (lt~ same (W 0)))

    delta_y~ : denominator_of w ≡ denominator_of w' → Near (delta_yOf w) (delta_yOf w')
    unfolding delta_yOf
    delta_y~ e = div~ (search (near, W) depth 9) e

    delta_x~ : {y y' : Float} → w at 0 ≡ w' at 0 → Near y y' → Near (delta_xOf w y) (delta_xOf w' y')
    unfolding delta_xOf
    delta_x~ e h = div~ (search (near, W) depth 9) (ap (λ (z : Float). f2 ⊗ z) e)

    -- a division is reached only where its divisor is no zero, and so the same
    pub moved~ : RefinedNear (moved_of a index w) (moved_of b index w')
    unfolding moved_of
    moved~ = go (lt (denominator_of w) f1e_10) refl (lt (abs_of (w at 0)) f1e_10) refl where
      go : (t : Bool) → lt (denominator_of w) f1e_10 ≡ t → (u : Bool) → lt (abs_of (w at 0)) f1e_10 ≡ u → RefinedNear (moved_of a index w) (moved_of b index w')
      go true p u q = rw (p, sym (lt~ denominator~ (same {x = f1e_10})) ∙ p) rejected
      go false p true q = chosen~ RefinedNear (lt~ denominator~ same) rejected (rw (q, sym (lt~ (abs~ (W 0)) (same {x = f1e_10})) ∙ q) rejected)
      go false p false q =
          let D : denominator_of w ≡ denominator_of w' = not_tiny_equal denominator~ p in
          let Z : w at 0 ≡ w' at 0 = not-small_equal (W 0) q in
          chosen~ RefinedNear (lt~ denominator~ same) rejected (chosen~ RefinedNear (lt~ (abs~ (W 0)) same) rejected
          (chosen~ RefinedNear (steep~ S.max) (placed~ (delta_x~ Z (delta_y~ D)) (delta_y~ D)) rejected))

module _ (p : Prims) (A : Allowed p) (s : Set) (most : Float) (k : List (List Float)) {a b : Spot} (S : SpotNear a b) (x-steady : Steady a.x) (y-steady : Steady a.y) where
  from : {sigma sigma' : Float} {m m' : Bool} → sigma ≡ sigma' → m ≡ m' →
      RefinedNear
      (cond (edge_of (values_of k sigma) most m) (moved_of a (index_of s.sigmas sigma) (spatial_by p s (index_of s.sigmas sigma) (values_of k sigma))) None)
      (cond (edge_of (values_of k sigma') most m') (moved_of b (index_of s.sigmas sigma') (spatial_by ours s (index_of s.sigmas sigma') (values_of k sigma'))) None)
  from {sigma = sigma} {m = m} e d =
      let v = values_of k sigma in
      let index = index_of s.sigmas sigma in
      rw (← e, ← d)
      (chosen~ RefinedNear {t = edge_of v most m} refl (moved~ S x-steady y-steady index (spatial_by p s index v) (spatial_by ours s index v) (spatial~ p A s index v)) rejected)

  -- any allowed choice of the sums' zeros accepts the same spot, or rejects as well
  pub refine~ : RefinedNear (refine_by p s most k a) (refine_by ours s most k b)
  unfolding refine_by
  refine~ = from S.sigma S.max
