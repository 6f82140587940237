-- What the correction answers and refuses, and where a corrected sigma lies. Assumes nothing.
use Rattle.std.specs.Prelude.{Ok, Err, Result}
use mathlib.Core.Path.{◌≡◌, refl, sym, ap, ◌∙◌}
use mathlib.Core.List.{List}
use mathlib.Core.Bool.{Bool, true, false, cond, ◌&&◌}
use mathlib.Core.Logic.{◌⊎◌, inl, inr}
use Prim.Native.Nat.{ℕ}
use native.Mathlib.Omega.{arith}
use lib.Ieee.{Float, le, ne, neg}
use Rattle.float.specs.Small.{finite}
use Rattle.float.specs.Num.{◌⊕◌, ◌⊘◌}
use Rattle.tables.specs.Set.{good}
use Rattle.float.proofs.Bools.{both, all_four, passed}
use Rattle.tables.specs.declared.Set.{Set}
use Rattle.tables.specs.Refusal.{number}
use Rattle.tables.specs.declared.Missing.{Missing}
use Rattle.tables.specs.declared.Missing.TheVariants.{Polarity, Range}
use Rattle.tables.specs.declared.Refusal.{Refusal}
use Rattle.tables.specs.declared.Refusal.TheVariants as refusal
use Rattle.fit.specs.Cubic.{◌at◌, coeffs_of, curvature_of}
use Rattle.size.specs.Correct.{geometry_of, blend_beta_of, bounded_of, model_move_of, derivative_of, place_of, sigma_at, accepted, better, chosen_of, trusted, in_range, moved_of, corrected_by, corrected_of, answer_of, correct_by, correct_of}
use Rattle.size.specs.Claims.{InWindow}
use Rattle.size.specs.declared.Geometry.{Geometry}

-- ---- answers that differ

pub no_size_no_sigma : (why : Missing) (sigma : Float) → Err why ≡ Ok sigma → ⊥
no_size_no_sigma why sigma e = let z : ◌≡◌ {A = ℕ} 0 1 = cc in omega arith

seven_not_four : (why : Missing) → refusal.NoSize why ≡ refusal.BadSet → ⊥
unfolding number
seven_not_four why e = let z : ◌≡◌ {A = ℕ} 7 4 = ap number e in omega arith

refused_no_size : {w : Refusal} (sigma : Float) → Err w ≡ Ok sigma → ⊥
refused_no_size sigma e = let z : ◌≡◌ {A = ℕ} 0 1 = cc in omega arith

-- ---- the accepted window

module _ (g : Geometry) where
  accepted_in_window : (t sigma : Float) → accepted g t sigma ≡ true → InWindow g sigma
  unfolding accepted
  accepted_in_window t sigma e =
      let parts = both (finite t && finite sigma && (le g.tmin t && le t g.tmax)) (le g.sigmamin sigma && le sigma g.sigmamax) e in
      let finites = both (finite t && finite sigma) (le g.tmin t && le t g.tmax) parts.0 in
      let window = both (le g.sigmamin sigma) (le sigma g.sigmamax) parts.1 in
      record { whole = (both (finite t) (finite sigma) finites.0).1; low = window.0; high = window.1 }

  same_window : {x y : Float} → ◌≡◌ {A = Result Float Missing} (Ok x) (Ok y) → InWindow g x → InWindow g y
  same_window {x} {y} e h = let same : x ≡ y = cc in rw (← same) h

  module _ (k : List Float) (is_max : Bool) where
    better_in_window : (bounded model : Float) → better g k bounded model is_max ≡ true → InWindow g (sigma_at g model)
    unfolding better
    better_in_window bounded model e = accepted_in_window model (sigma_at g model) (all_four _ _ _ _ e).0

    chosen_in_window : (t bounded model sigma : Float) → InWindow g sigma → InWindow g (chosen_of g k t bounded model sigma is_max)
    unfolding chosen_of
    chosen_in_window t bounded model sigma h = go (ne model bounded && better g k (t ⊕ bounded) (t ⊕ model) is_max) refl
      where
        go : (b : Bool) → (ne model bounded && better g k (t ⊕ bounded) (t ⊕ model) is_max) ≡ b → InWindow g (cond b (sigma_at g (t ⊕ model)) sigma)
        go true e = better_in_window (t ⊕ bounded) (t ⊕ model) (both (ne model bounded) _ e).1
        go false e = h

    moved_in_window : (beta t derivative curvature sigma : Float) → moved_of g k beta t derivative curvature is_max ≡ Ok sigma → InWindow g sigma
    unfolding moved_of in_range
    moved_in_window beta t derivative curvature sigma e =
        let move = bounded_of g beta (neg derivative ⊘ curvature) in
        let model = model_move_of g beta (k at 0) derivative curvature move in
        let end = sigma_at g (t ⊕ move) in
        let h = passed (in_range g move (t ⊕ move) end) (Ok (chosen_of g k t move model end is_max)) (Err Range) e (no_size_no_sigma Range sigma) in
        same_window h.1 (chosen_in_window t move model end (accepted_in_window (t ⊕ move) end (both (finite move) _ h.0).1))

module _ (s : Set) (l : List Float) (anchor : Float) (is_max : Bool) where
  corrected_in_window : (sigma : Float) → corrected_of s l anchor is_max ≡ Ok sigma → InWindow (geometry_of s) sigma
  unfolding corrected_by
  corrected_in_window sigma e =
      let g = geometry_of s in
      let k = coeffs_of s.geometry l in
      let t = place_of g anchor in
      let derivative = derivative_of k t in
      let curvature = curvature_of k t in
      let beta = blend_beta_of g s.sigmas l in
      let h = passed (trusted g t derivative curvature is_max) (moved_of g k beta t derivative curvature is_max) (Err Polarity) e (no_size_no_sigma Polarity sigma) in
      moved_in_window g k is_max beta t derivative curvature sigma h.1

  -- ---- the answers

  answered : (c : Result Float Missing) (sigma : Float) → answer_of c ≡ Ok sigma → c ≡ Ok sigma
  unfolding answer_of
  answered (Ok x) sigma e = cc
  answered (Err why) sigma e = absurd (refused_no_size sigma e)

  -- a size is answered only for a good set, and it is the corrected sigma
  pub size-is-corrected : (sigma : Float) → correct_of s l anchor is_max ≡ Ok sigma → (good s ≡ true) × (corrected_of s l anchor is_max ≡ Ok sigma)
  unfolding correct_by
  size-is-corrected sigma e =
      let h = passed (good s) _ (Err refusal.BadSet) e (refused_no_size sigma) in
      (h.0, answered _ sigma h.1)

  -- and the corrected sigma of a good set is answered
  pub corrected-is-size : (sigma : Float) → good s ≡ true → corrected_of s l anchor is_max ≡ Ok sigma → correct_of s l anchor is_max ≡ Ok sigma
  unfolding correct_by answer_of
  corrected-is-size sigma g e = rw (g, e)

  -- a set that is not good is refused before anything else
  pub bad-set-refused : good s ≡ false → correct_of s l anchor is_max ≡ Err refusal.BadSet
  unfolding correct_by
  bad-set-refused g = rw g

  -- a good set with no corrected sigma is refused, with the cause
  pub no_size-refused : (why : Missing) → good s ≡ true → corrected_of s l anchor is_max ≡ Err why → correct_of s l anchor is_max ≡ Err (refusal.NoSize why)
  unfolding correct_by answer_of
  no_size-refused why g e = rw (g, e)

  -- so a refusal is 4, of a bad set, or 7 with its cause, of a good one without a corrected sigma
  pub refused-with_four_or_seven : (w : Refusal) → correct_of s l anchor is_max ≡ Err w
      → ((good s ≡ false) × (w ≡ refusal.BadSet)) ⊎ ((good s ≡ true) × ((why : Missing) × (corrected_of s l anchor is_max ≡ Err why) × (w ≡ refusal.NoSize why)))
  refused-with_four_or_seven w e = go (good s) refl (corrected_of s l anchor is_max) refl
    where
      go : (b : Bool) → good s ≡ b → (c : Result Float Missing) → corrected_of s l anchor is_max ≡ c
          → ((good s ≡ false) × (w ≡ refusal.BadSet)) ⊎ ((good s ≡ true) × ((why : Missing) × (corrected_of s l anchor is_max ≡ Err why) × (w ≡ refusal.NoSize why)))
      go false g c k = let bad : Err refusal.BadSet ≡ Err w = sym (bad-set-refused g) ∙ e in inl (g, cc)
      go true g (Ok sigma) k = absurd (refused_no_size sigma (sym e ∙ corrected-is-size sigma g k))
      go true g (Err why) k = let none : Err (refusal.NoSize why) ≡ Err w = sym (no_size-refused why g k) ∙ e in inr (g, (why, k, cc))

  -- 7 is answered with a cause exactly where that is the inner correction's
  pub cause-is_corrects : (why : Missing) → correct_of s l anchor is_max ≡ Err (refusal.NoSize why) → corrected_of s l anchor is_max ≡ Err why
  cause-is_corrects why e = go (refused-with_four_or_seven (refusal.NoSize why) e)
    where
      go : ((good s ≡ false) × (refusal.NoSize why ≡ refusal.BadSet)) ⊎ ((good s ≡ true) × ((other : Missing) × (corrected_of s l anchor is_max ≡ Err other) × (refusal.NoSize why ≡ refusal.NoSize other)))
          → corrected_of s l anchor is_max ≡ Err why
      go (inl h) = absurd (seven_not_four why h.1)
      go (inr h) = let same : h.1.0 ≡ why = cc in h.1.1 ∙ ap Err same

  -- a corrected sigma is finite and lies in the accepted window
  pub size_in_window : (sigma : Float) → correct_of s l anchor is_max ≡ Ok sigma → InWindow (geometry_of s) sigma
  size_in_window sigma e = corrected_in_window sigma (size-is-corrected sigma e).1
