-- What rules a pixel out: its own stationary point against the gates, a rival's stationary point or band end, a refusal. Assumes nothing.
use Rattle.std.specs.Prelude.{Some, None}
use Prim.Native.Nat.{ℕ, ◌<◌}
use mathlib.Core.Path.{◌≡◌, refl, sym, ap, ◌∙◌, subst}
use mathlib.Core.Logic.{inl, inr}
use mathlib.Core.List.{List, []}
use mathlib.Core.Bool.{Bool, true, false, false≢true, ◌&&◌}
use native.Mathlib.Omega.{arith}
use lib.Dec.{T, eqb}
use lib.ListN.{length, get_or}
use lib.Ieee.{Float, lt, le, neg, binary32, fits}
use Rattle.pixel.specs.Ring.{beats_cubic}
use Rattle.float.specs.Small.{finite}
use Rattle.float.specs.Num.{◌⊗◌, f0}
use Rattle.float.proofs.Bools.{all_four, contrary}
use Rattle.float.proofs.Signs.{neg-neg, lt-neg}
use Rattle.float.proofs.One.{one_times, minus_one_times}
use Rattle.tables.specs.declared.Set.{Set}
use Rattle.tables.specs.declared.Thresholds.{Thresholds}
use Rattle.fit.specs.Cubic.{◌at◌, coeffs_of, horner_of, curvature_of}
use Rattle.fit.specs.Prims.{ours}
use Rattle.fit.specs.Envelope.{within, shape_of}
use Rattle.fit.specs.Band.{sign_of, stationary_of, band_of}
use Rattle.fit.specs.Owns.{owns_of}
use Rattle.fit.specs.Owned.{owned_by}
use Rattle.fit.specs.declared.Band.{Band}
use Rattle.fit.specs.declared.Envelope.{Envelope}
use Rattle.fit.proofs.Finite.{Whole}
use Rattle.fit.proofs.CubicLaws.{finite_curvature_finite_samples}
use Rattle.fit.proofs.Owners.{finite_number, owner-outside}
use Rattle.fit.proofs.Polarity.{Turned, AtPolarity, at_polarity}
use Rattle.fit.proofs.Rival.{horner_fits, stationary_reaches, low-reaches, high-reaches}
use Rattle.refine.specs.Refine.{refine_of}
use Rattle.refine.specs.declared.Spot.{Spot}
use Rattle.pixel.specs.Gate.{sigma_of, peak_of, strong_of, curved_of, gate_by, own_gate_by}
use Rattle.pixel.specs.Verdict.{verdict_of}
use Rattle.pixel.specs.Rules.{cubics_at, own_samples, own_cubic, own_sigma, own_peak}
use Rattle.pixel.specs.declared.Frame.{Frame}
use Rattle.pixel.proofs.NineLaws.{cubics_place}
use Rattle.pixel.proofs.GateLaws.{own_gates_fail}
use Rattle.pixel.proofs.OrderLaws.{not_gated, one_loser, refused_at}

-- ---- the gates

-- a peak beyond the threshold, with the polarity's sign
strong_says : (th : Thresholds) (peak : Float) (is_max : Bool) → T (fits binary32 peak) → strong_of th peak is_max ≡ true → lt th.peak (sign_of is_max ⊗ peak) ≡ true
unfolding strong_of sign_of
strong_says th peak true f h = rw (one_times peak f) h
strong_says th peak false f h = rw (minus_one_times peak f) (sym (lt-neg (neg peak) th.peak) ∙ ap (λ (y : Float). lt y (neg th.peak)) (neg-neg peak) ∙ h)

-- the window holds 0, so that an end sample's extreme could pass it
abbrev pub wild : Thresholds → Bool
wild th = within th.low th.high f0

module _ (th : Thresholds) (l k g : List Float) (is_max : Bool) where
  abbrev pub envelope : Envelope
  envelope = shape_of k g (l at 0) (l at 3)

  abbrev pub gates : Bool
  gates = gate_by ours th l k (sigma_of envelope is_max) (peak_of envelope is_max) is_max

  here : AtPolarity k g is_max (sigma_of envelope is_max) (peak_of envelope is_max)
  unfolding sigma_of peak_of
  here = at_polarity k g (l at 0) (l at 3) is_max

  four : gates ≡ true → (within th.low th.high (sigma_of envelope is_max) ≡ true) × (strong_of th (peak_of envelope is_max) is_max ≡ true) × (curved_of th k (sigma_of envelope is_max) is_max ≡ true) × (owns_of l is_max ≡ true)
  unfolding gate_by
  four h = all_four _ _ _ _ h

  -- gates that pass are those of the stationary point
  pub gates_turned : wild th ≡ false → gates ≡ true → Turned k g is_max (sigma_of envelope is_max) (peak_of envelope is_max)
  gates_turned tame h = go here
    where
      go : AtPolarity k g is_max (sigma_of envelope is_max) (peak_of envelope is_max) → Turned k g is_max (sigma_of envelope is_max) (peak_of envelope is_max)
      go (inl z) = absurd (false≢true (sym tame ∙ ap (within th.low th.high) (sym z) ∙ (four h).0))
      go (inr t) = t

  -- its value beyond the threshold
  pub gates_strong : wild th ≡ false → gates ≡ true → lt th.peak (sign_of is_max ⊗ horner_of k (sigma_of envelope is_max)) ≡ true
  gates_strong tame h =
      let t = gates_turned tame h in
      subst (λ (y : Float). lt th.peak (sign_of is_max ⊗ y) ≡ true) t.value (strong_says th (peak_of envelope is_max) is_max (subst (λ (y : Float). T (fits binary32 y)) (sym t.value) (horner_fits k (sigma_of envelope is_max))) (four h).1)

same_point : (x y : Float) → Some x ≡ Some y → x ≡ y
same_point x y e = cc

no_point : (x : Float) → None ≡ Some x → ⊥
no_point x e = let z : false ≡ true = cc in false≢true z

curved_finite : (th : Thresholds) (k : List Float) (sigma : Float) (is_max : Bool) → curved_of th k sigma is_max ≡ true → finite (curvature_of k sigma) ≡ true
unfolding curved_of
curved_finite th k sigma is_max h = first_of_lem _ _ _ h
  where
    first_of_lem : (a b c : Bool) → (a && b && c) ≡ true → a ≡ true
    first_of_lem true b c e = refl
    first_of_lem false b c e = e

module _ (th : Thresholds) (t l g : List Float) (is_max : Bool) where
  abbrev pub cubic : List Float
  cubic = coeffs_of t l

  abbrev pub passes : Bool
  passes = gate_by ours th l cubic (sigma_of (shape_of cubic g (l at 0) (l at 3)) is_max) (peak_of (shape_of cubic g (l at 0) (l at 3)) is_max) is_max

  -- one inner sample lies beyond both outer ones: the curvature is finite, so the samples are
  pub gates_owned : passes ≡ true → owned_by l is_max ≡ true
  gates_owned h =
      let p = four th l cubic g is_max h in
      let whole : Whole l = finite_curvature_finite_samples t l _ (curved_finite th cubic _ is_max p.2) in
      owner-outside l is_max (finite_number (l at 0) (whole 0 (omega arith))) (finite_number (l at 3) (whole 3 (omega arith))) p.3

  -- where no inner sample does, the gates fail
  pub unowned_off : owned_by l is_max ≡ false → passes ≡ false
  unowned_off h = contrary gates_owned h

  -- where the cubic has no stationary point of the polarity, or one whose tests fail, the gates fail
  pub nowhere-off : wild th ≡ false → stationary_of cubic is_max ≡ None → passes ≡ false
  nowhere-off tame e = go passes refl
    where
      go : (b : Bool) → passes ≡ b → b ≡ false
      go false h = refl
      go true h = absurd (no_point _ (sym e ∙ (gates_turned th l cubic g is_max tame h).point))

  pub point-off : (p v : Float) → wild th ≡ false → stationary_of cubic is_max ≡ Some p → v ≡ sign_of is_max ⊗ horner_of cubic p →
      (owned_by l is_max && within th.low th.high p && lt th.peak v) ≡ false → passes ≡ false
  point-off p v tame e w off = contrary all off
    where
      all : passes ≡ true → (owned_by l is_max && within th.low th.high p && lt th.peak v) ≡ true
      all h =
          let sigma = sigma_of (shape_of cubic g (l at 0) (l at 3)) is_max in
          let same : sigma ≡ p = same_point _ _ (sym (gates_turned th l cubic g is_max tame h).point ∙ e) in
          let window : within th.low th.high p ≡ true = subst (λ (y : Float). within th.low th.high y ≡ true) same (four th l cubic g is_max h).0 in
          let beyond : lt th.peak v ≡ true = subst (λ (y : Float). lt th.peak y ≡ true) (sym w) (subst (λ (y : Float). lt th.peak (sign_of is_max ⊗ horner_of cubic y) ≡ true) same (gates_strong th l cubic g is_max tame h)) in
          rw (gates_owned h, window, beyond)

-- those of a set's table and sigmas are the pixel's own gates, and where they fail it lists nothing
pub gate_rules : (s : Set) (th : Thresholds) (f : Frame) (nine : List (List Float)) (row col : ℕ) (is_max : Bool) → passes th s.scale (own_samples nine) s.sigmas is_max ≡ false → verdict_of s th f nine row col is_max ≡ None
unfolding own_gate_by
gate_rules s th f nine row col is_max h = not_gated s th f nine row col is_max (own_gates_fail s th nine is_max h)

-- the cubic at the pixel's own place is that of its samples
pub own-cubic : (s : Set) (nine : List (List Float)) → 4 < length nine → own_cubic s nine ≡ coeffs_of s.scale (own_samples nine)
own-cubic s nine h = cubics_place s.scale nine 4 h

-- ---- a rival

module _ (k : List Float) (peak : Float) (band : Band) (is_max : Bool) (held : T (fits binary32 peak)) where
  pub rival_point : (s : Float) → stationary_of k is_max ≡ Some s → lt band.low s ≡ true → lt s band.high ≡ true →
      T (le (sign_of is_max ⊗ peak) (sign_of is_max ⊗ horner_of k s)) → beats_cubic k peak band is_max ≡ false
  unfolding beats_cubic
  rival_point s e a b h = stationary_reaches k band.low band.high peak is_max held s e a b h

  pub rival_low : T (le (sign_of is_max ⊗ peak) (sign_of is_max ⊗ horner_of k band.low)) → beats_cubic k peak band is_max ≡ false
  unfolding beats_cubic
  rival_low h = low-reaches k band.low band.high peak is_max held h

  pub rival_high : T (le (sign_of is_max ⊗ peak) (sign_of is_max ⊗ horner_of k band.high)) → beats_cubic k peak band is_max ≡ false
  unfolding beats_cubic
  rival_high h = high-reaches k band.low band.high peak is_max held h

-- ---- a pixel with a stationary point p of its own

module _ (s : Set) (th : Thresholds) (f : Frame) (nine : List (List Float)) (row col : ℕ) (is_max : Bool) (tame : wild th ≡ false) (p : Float) (own : stationary_of (own_cubic s nine) is_max ≡ Some p) where
  abbrev pub peak : Float
  peak = horner_of (own_cubic s nine) p

  -- it suffices to rule out the extreme at p, with its value
  by-own : ((own_sigma s nine is_max ≡ p) → (own_peak s nine is_max ≡ peak) → verdict_of s th f nine row col is_max ≡ None) → verdict_of s th f nine row col is_max ≡ None
  by-own rest = go (gate_by ours th (own_samples nine) (own_cubic s nine) (own_sigma s nine is_max) (own_peak s nine is_max) is_max) refl
    where
      go : (b : Bool) → gate_by ours th (own_samples nine) (own_cubic s nine) (own_sigma s nine is_max) (own_peak s nine is_max) is_max ≡ b → verdict_of s th f nine row col is_max ≡ None
      go false h = not_gated s th f nine row col is_max h
      go true h =
          let t = gates_turned th (own_samples nine) (own_cubic s nine) s.sigmas is_max tame h in
          let same : own_sigma s nine is_max ≡ p = same_point _ _ (sym t.point ∙ own) in
          rest same (t.value ∙ ap (horner_of (own_cubic s nine)) same)

  -- a neighbour's cubic
  abbrev pub rival : ℕ → List Float
  rival i = coeffs_of s.scale (get_or nine i [])

  lost : (i : ℕ) → i < 9 → i < length nine → eqb i 4 ≡ false → beats_cubic (rival i) peak (band_of s.sigmas p) is_max ≡ false → verdict_of s th f nine row col is_max ≡ None
  lost i b long other h =
      by-own (λ e v. one_loser s th f nine row col is_max i b long other
      (subst (λ (y : Float). beats_cubic (rival i) y (band_of s.sigmas (own_sigma s nine is_max)) is_max ≡ false) (sym v) (subst (λ (y : Float). beats_cubic (rival i) peak (band_of s.sigmas y) is_max ≡ false) (sym e) h)))

  module _ (i : ℕ) (b : i < 9) (long : i < length nine) (other : eqb i 4 ≡ false) where
    -- a neighbour's stationary point inside the band reaches the peak
    pub point-rules : (q : Float) → stationary_of (rival i) is_max ≡ Some q → lt (band_of s.sigmas p).low q ≡ true → lt q (band_of s.sigmas p).high ≡ true →
        T (le (sign_of is_max ⊗ peak) (sign_of is_max ⊗ horner_of (rival i) q)) → verdict_of s th f nine row col is_max ≡ None
    point-rules q e low high h = lost i b long other (rival_point (rival i) peak (band_of s.sigmas p) is_max (horner_fits (own_cubic s nine) p) q e low high h)

    -- or its value at an end of the band
    pub low-rules : T (le (sign_of is_max ⊗ peak) (sign_of is_max ⊗ horner_of (rival i) (band_of s.sigmas p).low)) → verdict_of s th f nine row col is_max ≡ None
    low-rules h = lost i b long other (rival_low (rival i) peak (band_of s.sigmas p) is_max (horner_fits (own_cubic s nine) p) h)

    pub high-rules : T (le (sign_of is_max ⊗ peak) (sign_of is_max ⊗ horner_of (rival i) (band_of s.sigmas p).high)) → verdict_of s th f nine row col is_max ≡ None
    high-rules h = lost i b long other (rival_high (rival i) peak (band_of s.sigmas p) is_max (horner_fits (own_cubic s nine) p) h)

  -- the refinement refuses a spot with that sigma and polarity, wherever it lies
  pub refusal-rules : (spot : Spot) → spot.sigma ≡ p → spot.max ≡ is_max → refine_of s th.ratio (cubics_at s nine) spot ≡ None → verdict_of s th f nine row col is_max ≡ None
  refusal-rules spot e m h = by-own (λ e' v. refused_at s th f nine row col is_max spot (e ∙ sym e') m h)
