-- The envelope at one polarity is an end sample's, at sigma 0, or the stationary point of that polarity with its value. Assumes nothing.
use Rattle.std.specs.Prelude.{Some}
use mathlib.Core.Path.{◌≡◌, refl, sym, ap, ◌∙◌, subst}
use mathlib.Core.Logic.{◌⊎◌, inl, inr}
use mathlib.Core.List.{List}
use mathlib.Core.Bool.{Bool, true, false, cond, ◌&&◌}
use lib.Dec.{T}
use lib.Ieee.{Float, lt, neg, binary32, fits, of_bits}
use lib.Ieee.Fits.{sub-fits}
use Rattle.float.specs.Small.{finite, abs_of}
use Rattle.float.specs.Sqrt.{sqrt_of}
use Rattle.float.specs.Num.{◌⊕◌, ◌⊖◌, ◌⊗◌, ◌⊘◌, f0, f2, f6, f1e_6}
use Rattle.float.proofs.Bools.{both, all_five}
use Rattle.float.proofs.Order.{below_one_way}
use Rattle.float.proofs.Signs.{sub-neg}
use Rattle.float.proofs.One.{one_times, minus_one_times}
use Rattle.float.proofs.Denied.{sqrt-fits}
use Rattle.fit.specs.Cubic.{◌at◌, horner_of, discriminant_of, curvature_of}
use Rattle.fit.specs.Prims.{ours}
use Rattle.fit.specs.Band.{sign_of, stationary_of}
use Rattle.fit.specs.Envelope.{within, ends_by, put_low, put_high, shape_of}
use Rattle.fit.specs.Extrema.{lowered_of, raised_of, single_of, both_of, extrema_of}
use Rattle.fit.specs.declared.Envelope.{Envelope}
use Rattle.fit.proofs.Agree.{envelopes_agree}

-- the stationary point of the polarity, with its value, inside the sigmas
pub record Turned (k g : List Float) (is_max : Bool) (sigma peak : Float) : Type 0 where
  pub point : stationary_of k is_max ≡ Some sigma
  pub value : peak ≡ horner_of k sigma
  pub inside : within (g at 0) (g at 3) sigma ≡ true

-- or none: sigma is 0
abbrev pub AtPolarity : List Float → List Float → Bool → Float → Float → Type 0
AtPolarity k g is_max sigma peak = (sigma ≡ f0) ⊎ Turned k g is_max sigma peak

-- ---- one stationary point put in

low-put : (t : Bool) (v s : Float) (e : Envelope) → e.smin ≡ f0 → ((put_low t v s e).smin ≡ f0) ⊎ ((t ≡ true) × ((put_low t v s e).smin ≡ s) × ((put_low t v s e).emin ≡ v))
unfolding put_low
low-put true v s e h = inr (refl, refl, refl)
low-put false v s e h = inl h

high-put : (t : Bool) (v s : Float) (e : Envelope) → e.smax ≡ f0 → ((put_high t v s e).smax ≡ f0) ⊎ ((t ≡ true) × ((put_high t v s e).smax ≡ s) × ((put_high t v s e).emax ≡ v))
unfolding put_high
high-put true v s e h = inr (refl, refl, refl)
high-put false v s e h = inl h

low-high : (t : Bool) (v s : Float) (e : Envelope) → (put_low t v s e).smax ≡ e.smax
unfolding put_low
low-high true v s e = refl
low-high false v s e = refl

high-low : (t : Bool) (v s : Float) (e : Envelope) → ((put_high t v s e).smin ≡ e.smin) × ((put_high t v s e).emin ≡ e.emin)
unfolding put_high
high-low true v s e = (refl, refl)
high-low false v s e = (refl, refl)

-- what a point put in comes to
turned : (k g : List Float) (is_max test : Bool) (sigma peak s : Float) → (test ≡ true → (stationary_of k is_max ≡ Some s) × (within (g at 0) (g at 3) s ≡ true)) →
    (sigma ≡ f0) ⊎ ((test ≡ true) × (sigma ≡ s) × (peak ≡ horner_of k s)) → AtPolarity k g is_max sigma peak
turned k g is_max test sigma peak s here (inl z) = inl z
turned k g is_max test sigma peak s here (inr p) =
    let h = here p.0 in
    inr (record { point = h.0 ∙ ap Some (sym p.1); value = p.2 ∙ ap (horner_of k) (sym p.1); inside = ap (within (g at 0) (g at 3)) p.1 ∙ h.1 })

module _ (k g : List Float) where
  abbrev root : Float
  root = sqrt_of (discriminant_of k)

  root-fits : T (fits binary32 root)
  unfolding discriminant_of
  root-fits = sqrt-fits _ (sub-fits binary32 _ _)

  -- ---- the points of a cubic
  abbrev low_point : Float
  low_point = (neg (f2 ⊗ k at 1) ⊕ root) ⊘ (f6 ⊗ k at 0)

  abbrev high_point : Float
  high_point = (neg (f2 ⊗ k at 1) ⊖ root) ⊘ (f6 ⊗ k at 0)

  abbrev one_point : Float
  one_point = neg (k at 2) ⊘ (f2 ⊗ k at 1)

  module _ (cubic : lt f1e_6 (abs_of (k at 0)) ≡ true) (some : lt f0 (discriminant_of k) ≡ true) where
    high-point : stationary_of k true ≡ Some high_point
    unfolding stationary_of sign_of
    high-point = rw (cubic, some, one_times root root-fits)

    low-point : stationary_of k false ≡ Some low_point
    unfolding stationary_of sign_of
    low-point = rw (cubic, some, minus_one_times root root-fits, sub-neg)

    cubic-high : (e : Envelope) → e.smax ≡ f0 → AtPolarity k g true (raised_of k g high_point (lowered_of k g low_point e)).smax (raised_of k g high_point (lowered_of k g low_point e)).emax
    unfolding raised_of lowered_of
    cubic-high e h = turned k g true _ _ _ high_point (λ p. (high-point, (all_five _ _ _ _ _ p).0)) (high-put _ _ high_point _ (low-high _ _ _ e ∙ h))

    raised_keeps : (s : Float) (e : Envelope) → ((raised_of k g s e).smin ≡ e.smin) × ((raised_of k g s e).emin ≡ e.emin)
    unfolding raised_of
    raised_keeps s e = high-low _ _ s e

    cubic-low : (e : Envelope) → e.smin ≡ f0 → AtPolarity k g false (raised_of k g high_point (lowered_of k g low_point e)).smin (raised_of k g high_point (lowered_of k g low_point e)).emin
    unfolding lowered_of
    cubic-low e h =
        let kept = raised_keeps high_point (lowered_of k g low_point e) in
        rw (kept.0, kept.1) (turned k g false _ _ _ low_point (λ p. (low-point, (all_five _ _ _ _ _ p).0)) (low-put _ _ low_point e h))

  -- ---- the point of a quadratic
  abbrev low_one : Envelope → Envelope
  low_one e = put_low (lt f0 (k at 1) && lt f0 (curvature_of k one_point) && lt (horner_of k one_point) e.emin) (horner_of k one_point) one_point e

  abbrev both_one : Envelope → Envelope
  both_one e = put_high (lt (k at 1) f0 && lt (curvature_of k one_point) f0 && lt (low_one e).emax (horner_of k one_point)) (horner_of k one_point) one_point (low_one e)

  abbrev counts : Bool
  counts = within (g at 0) (g at 3) one_point && finite (curvature_of k one_point) && finite (horner_of k one_point)

  counts_inside : counts ≡ true → within (g at 0) (g at 3) one_point ≡ true
  counts_inside h = (both (within (g at 0) (g at 3) one_point) _ (both (within (g at 0) (g at 3) one_point && finite (curvature_of k one_point)) _ h).0).0

  module _ (flat : lt f1e_6 (abs_of (k at 0)) ≡ false) (bent : lt f1e_6 (abs_of (k at 1)) ≡ true) where
    one-high : lt (k at 1) f0 ≡ true → stationary_of k true ≡ Some one_point
    unfolding stationary_of
    one-high h = rw (flat, bent, h)

    one-low : lt f0 (k at 1) ≡ true → stationary_of k false ≡ Some one_point
    unfolding stationary_of
    one-low h = rw (flat, bent, below_one_way (k at 1) f0 (subst T (sym h) tt))

    single-high : (e : Envelope) → e.smax ≡ f0 → AtPolarity k g true (single_of k g one_point e).smax (single_of k g one_point e).emax
    unfolding single_of
    single-high e h = go counts refl
      where
        go : (t : Bool) → counts ≡ t → AtPolarity k g true (cond t (both_one e) e).smax (cond t (both_one e) e).emax
        go true c = turned k g true _ _ _ one_point (λ p. (one-high (both (lt (k at 1) f0) _ (both (lt (k at 1) f0 && lt (curvature_of k one_point) f0) _ p).0).0, counts_inside c)) (high-put _ _ one_point (low_one e) (low-high _ _ _ e ∙ h))
        go false c = inl h

    single-low : (e : Envelope) → e.smin ≡ f0 → AtPolarity k g false (single_of k g one_point e).smin (single_of k g one_point e).emin
    unfolding single_of
    single-low e h = go counts refl
      where
        go : (t : Bool) → counts ≡ t → AtPolarity k g false (cond t (both_one e) e).smin (cond t (both_one e) e).emin
        go true c =
            let kept = high-low (lt (k at 1) f0 && lt (curvature_of k one_point) f0 && lt (low_one e).emax (horner_of k one_point)) (horner_of k one_point) one_point (low_one e) in
            rw (kept.0, kept.1) (turned k g false _ _ _ one_point (λ p. (one-low (both (lt f0 (k at 1)) _ (both (lt f0 (k at 1) && lt f0 (curvature_of k one_point)) _ p).0).0, counts_inside c)) (low-put _ _ one_point e h))
        go false c = inl h

  -- ---- the whole
  module _ (l0 l3 : Float) where
    extrema_high : AtPolarity k g true (extrema_of k g l0 l3).smax (extrema_of k g l0 l3).emax
    unfolding extrema_of both_of ends_by of_bits
    extrema_high = by (lt f1e_6 (abs_of (k at 0))) refl (lt f0 (discriminant_of k)) refl (lt f1e_6 (abs_of (k at 1))) refl
      where
        by : (t : Bool) → lt f1e_6 (abs_of (k at 0)) ≡ t → (u : Bool) → lt f0 (discriminant_of k) ≡ u → (v : Bool) → lt f1e_6 (abs_of (k at 1)) ≡ v → AtPolarity k g true (extrema_of k g l0 l3).smax (extrema_of k g l0 l3).emax
        by true p true q v r = rw (p, q) (cubic-high p q (ends_by ours l0 l3) refl)
        by true p false q v r = rw (p, q) (inl refl)
        by false p u q true r = rw (p, r) (single-high p r (ends_by ours l0 l3) refl)
        by false p u q false r = rw (p, r) (inl refl)

    extrema_low : AtPolarity k g false (extrema_of k g l0 l3).smin (extrema_of k g l0 l3).emin
    unfolding extrema_of both_of ends_by of_bits
    extrema_low = by (lt f1e_6 (abs_of (k at 0))) refl (lt f0 (discriminant_of k)) refl (lt f1e_6 (abs_of (k at 1))) refl
      where
        by : (t : Bool) → lt f1e_6 (abs_of (k at 0)) ≡ t → (u : Bool) → lt f0 (discriminant_of k) ≡ u → (v : Bool) → lt f1e_6 (abs_of (k at 1)) ≡ v → AtPolarity k g false (extrema_of k g l0 l3).smin (extrema_of k g l0 l3).emin
        by true p true q v r = rw (p, q) (cubic-low p q (ends_by ours l0 l3) refl)
        by true p false q v r = rw (p, q) (inl refl)
        by false p u q true r = rw (p, r) (single-low p r (ends_by ours l0 l3) refl)
        by false p u q false r = rw (p, r) (inl refl)

    pub at_polarity : (is_max : Bool) → AtPolarity k g is_max (cond is_max (shape_of k g l0 l3).smax (shape_of k g l0 l3).smin) (cond is_max (shape_of k g l0 l3).emax (shape_of k g l0 l3).emin)
    at_polarity true = rw (envelopes_agree k g l0 l3) extrema_high
    at_polarity false = rw (envelopes_agree k g l0 l3) extrema_low
