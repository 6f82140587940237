-- The 36 samples around a pixel read exactly its 21 pixels. Assumes nothing.
use Prim.Native.Nat.{ℕ, zero, suc, ◌+◌, ◌-◌, ◌*◌, ◌/◌, ◌%◌, ◌≤◌, ◌<◌}
use native.Mathlib.Omega.{arith}
use native.Mathlib.Nat.{eq-or-lt_of_le}
use mathlib.Core.Path.{◌≡◌, refl, subst}
use mathlib.Core.Bool.{true}
use mathlib.Core.Logic.{⊎_elim}
use mathlib.Core.List.{List}
use lib.ListN.{get_or}
use lib.Ieee.{Float, nan}
use Rattle.float.specs.Small.{finite}
use Rattle.tables.specs.declared.Set.{Set}
use Rattle.tables.specs.declared.Thresholds.{Thresholds}
use Rattle.pixel.specs.declared.Frame.{Frame}
use Rattle.pixel.specs.Verdict.{whole_place, whole_of}
use Rattle.samples.specs.Level.{Maps, maps_of, samples_of, samples_at, places_of, nine_at}
use Rattle.demands.specs.TwoMaps.{of21, Same, finites, Cross}
use Rattle.float.proofs.Bools.{both, all_four}
use Rattle.demands.proofs.NotFinite.{sample_finite, sample_same}
use Rattle.demands.proofs.Ring.{ring, crosses}

-- ---- one place

-- all four samples of a place are finite
record Four (l : List Float) : Type 0 where
  s0 : finite (get_or l 0 nan) ≡ true
  s1 : finite (get_or l 1 nan) ≡ true
  s2 : finite (get_or l 2 nan) ≡ true
  s3 : finite (get_or l 3 nan) ≡ true

four : (l : List Float) → whole_place l ≡ true → Four l
unfolding whole_place
four l h =
    let p = all_four (finite (get_or l 0 nan)) (finite (get_or l 1 nan)) (finite (get_or l 2 nan)) (finite (get_or l 3 nan)) h in
    record { s0 = p.0; s1 = p.1; s2 = p.2; s3 = p.3 }

place-finite : (m : Maps) (row col : ℕ) → Four (samples_at m row col) → Cross (λ r c. finites m r c ≡ true) row col
unfolding samples_of finites
place-finite m row col h =
    let x0 = sample_finite m.l0 m.frame.rows row col _ h.s0 in
    let x1 = sample_finite m.l1 m.frame.rows row col _ h.s1 in
    let x2 = sample_finite m.l2 m.frame.rows row col _ h.s2 in
    let x3 = sample_finite m.l3 m.frame.rows row col _ h.s3 in
    record {
      left = rw (x0.left, x1.left, x2.left, x3.left);
      right = rw (x0.right, x1.right, x2.right, x3.right);
      up = rw (x0.up, x1.up, x2.up, x3.up);
      down = rw (x0.down, x1.down, x2.down, x3.down);
      centre = rw (x0.centre, x1.centre, x2.centre, x3.centre);
    }

cross_map : (P Q : ℕ → ℕ → Type 0) → ((r c : ℕ) → P r c → Q r c) → (row col : ℕ) → Cross P row col → Cross Q row col
cross_map P Q f row col x =
    record { left = f _ _ x.left; right = f _ _ x.right; up = f _ _ x.up; down = f _ _ x.down; centre = f _ _ x.centre }

-- ---- the nine places

module _ (samples : ℕ → ℕ → List Float) (row col : ℕ) where
  whole_at : (n i k : ℕ) → i ≤ k → k < i + n → whole_of (places_of samples row col n i) ≡ true → Four (samples (row + k / 3 - 1) (col + k % 3 - 1))
  unfolding places_of whole_of
  whole_at zero i k p q h = let z : ⊥ = omega arith in absurd z
  whole_at (suc n) i k p q h =
      let l : List Float = samples (row + i / 3 - 1) (col + i % 3 - 1) in
      let t = both (whole_place l) _ h in
      ⊎_elim (λ e. subst (λ (x : ℕ). Four (samples (row + x / 3 - 1) (col + x % 3 - 1))) e (four l t.0))
      (λ g. whole_at n (suc i) k g (omega arith) t.1)
      (eq-or-lt_of_le p)

  places_same : (samples' : ℕ → ℕ → List Float) (n i : ℕ)
      → ((k : ℕ) → i ≤ k → k < i + n → samples (row + k / 3 - 1) (col + k % 3 - 1) ≡ samples' (row + k / 3 - 1) (col + k % 3 - 1))
      → places_of samples row col n i ≡ places_of samples' row col n i
  unfolding places_of
  places_same samples' zero i e = refl
  places_same samples' (suc n) i e = rw (e i (omega arith) (omega arith), places_same samples' n (suc i) (λ k p q. e k (omega arith) (omega arith)))

-- ---- the 21 pixels

-- Where one of a pixel's 21 pixels is NaN or infinite in a level, one of the pixel's 36 samples is not finite.
pub nine_finite : (m : Maps) (row col : ℕ) → 2 ≤ row → 2 ≤ col → whole_of (nine_at m row col) ≡ true
    → (r c : ℕ) → of21 row col r c ≡ true → finites m r c ≡ true
nine_finite m row col hr hc h =
    ring (λ r c. finites m r c ≡ true) row col hr hc
    (λ i j hi hj.
    let e : (i * 3 + j) / 3 ≡ i = omega arith in
    let f : (i * 3 + j) % 3 ≡ j = omega arith in
    place-finite m (row + i - 1) (col + j - 1) (rw (e, f) at (whole_at (samples_at m) row col 9 0 (i * 3 + j) (omega arith) (omega arith) h)))

module _ (f : Frame) (s : Set) (th : Thresholds) (a0 a1 a2 a3 b0 b1 b2 b3 : List Float) where
  abbrev A : Maps
  A = maps_of a0 a1 a2 a3 f s th

  abbrev B : Maps
  B = maps_of b0 b1 b2 b3 f s th

  place_same : (row col : ℕ) → Cross (Same A B) row col → samples_at A row col ≡ samples_at B row col
  unfolding samples_of
  place_same row col x =
      rw (
        sample_same a0 b0 f.rows row col _ (cross_map (Same A B) _ (λ r c h. h.level0) row col x),
        sample_same a1 b1 f.rows row col _ (cross_map (Same A B) _ (λ r c h. h.level1) row col x),
        sample_same a2 b2 f.rows row col _ (cross_map (Same A B) _ (λ r c h. h.level2) row col x),
        sample_same a3 b3 f.rows row col _ (cross_map (Same A B) _ (λ r c h. h.level3) row col x),
      )

  -- Two maps that have the same 21 pixels around a pixel have the same 36 samples there.
  pub nine_same : (row col : ℕ) → 2 ≤ row → 2 ≤ col → ((r c : ℕ) → of21 row col r c ≡ true → Same A B r c) → nine_at A row col ≡ nine_at B row col
  nine_same row col hr hc e =
      places_same (samples_at A) row col (samples_at B) 9 0
      (λ k p q. place_same (row + k / 3 - 1) (col + k % 3 - 1) (crosses (Same A B) row col hr hc e (k / 3) (k % 3) (omega arith) (omega arith)))
