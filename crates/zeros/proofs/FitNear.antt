-- What a pixel's numbers keep where zeros are chosen otherwise: envelope, gate of the levels, band and band extreme.
use Rattle.std.specs.Prelude.{Option, Some, None}
use mathlib.Core.Path.{◌≡◌, refl, sym}
use Prim.Native.Nat.{ℕ}
use mathlib.Core.List.{List}
use mathlib.Core.Bool.{Bool, true, false}
use lib.Ieee.{Float, lt}
use Rattle.float.specs.Small.{abs_of, min_of, max_of}
use Rattle.float.specs.Sqrt.{sqrt_of}
use Rattle.float.specs.Num.{f0, f1e_6}
use Rattle.fit.specs.Near.{Near, same}
use Rattle.fit.specs.Prims.{Prims, Allowed, ours, end_samples, under_root, band_cut, band_ends, turning_point, inner_pair, outer_pair}
use Rattle.fit.specs.Cubic.{◌at◌, coeffs_of, horner_of, discriminant_of}
use Rattle.fit.specs.Envelope.{ends_by, put_low, put_high, turn_of, first_of, turns_of, shape_by, envelope_by, envelope_of}
use Rattle.fit.specs.Band.{band_by, finite_cubic, sign_of, stationary_of, better_by, extreme_by}
use Rattle.fit.specs.Owns.{owns_by}
use Rattle.fit.specs.declared.Envelope.{Envelope}
use Rattle.fit.proofs.Agree.{above_zero, turn_off}
use Rattle.zeros.specs.Steps.{EnvelopeNear, BandNear}
use Rattle.zeros.proofs.NearLaws.{near_sym, near_trans, near, mul~, lt~, cond~, max~, min~, and~, above_equal}

-- ---- the envelope

put_low_lem : {t u : Bool} (v s : Float) {a b : Envelope} → t ≡ u → EnvelopeNear a b → EnvelopeNear (put_low t v s a) (put_low u v s b)
unfolding put_low
put_low_lem {t = t} v s e h = rw (← e) (go t h) where
  go : (t : Bool) {a b : Envelope} → EnvelopeNear a b → EnvelopeNear (put_low t v s a) (put_low t v s b)
  go true h = record { emin = same; emax = h.emax; smin = refl; smax = h.smax }
  go false h = h

put-high : {t u : Bool} (v s : Float) {a b : Envelope} → t ≡ u → EnvelopeNear a b → EnvelopeNear (put_high t v s a) (put_high u v s b)
unfolding put_high
put-high {t = t} v s e h = rw (← e) (go t h) where
  go : (t : Bool) {a b : Envelope} → EnvelopeNear a b → EnvelopeNear (put_high t v s a) (put_high t v s b)
  go true h = record { emin = h.emin; emax = same; smin = h.smin; smax = refl }
  go false h = h

turn~ : (k : List Float) (s : Float) (ok is_min : Bool) {a b : Envelope} → EnvelopeNear a b → EnvelopeNear (turn_of k s ok is_min a) (turn_of k s ok is_min b)
unfolding turn_of
turn~ k s ok is_min h = put-high _ s (rw (lt~ h.emax (same {x = horner_of k s}))) (put_low_lem _ s (rw (lt~ (same {x = horner_of k s}) h.emin)) h)

turns~ : (k g : List Float) (root : Float) {a b : Envelope} → EnvelopeNear a b → EnvelopeNear (turns_of k g root a) (turns_of k g root b)
unfolding turns_of
turns~ k g root h = turn~ k _ _ _ (turn~ k _ _ _ h)

-- where the discriminant is not above 0 its root is not looked at
rootless : (k g : List Float) (r r' : Float) (e : Envelope) → lt f0 (discriminant_of k) ≡ false → turns_of k g r e ≡ turns_of k g r' e
unfolding turns_of first_of
rootless k g r r' e h = go (lt f1e_6 (abs_of (k at 0))) refl (lt f1e_6 (abs_of (k at 1))) refl where
  go : (t : Bool) → lt f1e_6 (abs_of (k at 0)) ≡ t → (u : Bool) → lt f1e_6 (abs_of (k at 1)) ≡ u → turns_of k g r e ≡ turns_of k g r' e
  go true p u q = rw (h, p) (simp turn_off)
  go false p true q = rw (h, p, q) (simp turn_off)
  go false p false q = rw (h, p, q) (simp turn_off)

horner~ : (k : List Float) {s s' : Float} → Near s s' → Near (horner_of k s) (horner_of k s')
unfolding horner_of
horner~ k h = search near depth 9

-- ---- over any allowed choice

module _ (p : Prims) (A : Allowed p) where
  max_by~ : (i : ℕ) {a a' b b' : Float} → Near a a' → Near b b' → Near (p.max_p i a b) (max_of a' b')
  max_by~ i u v = near_trans (A.high i _ _) (max~ u v)

  min_by~ : (i : ℕ) {a a' b b' : Float} → Near a a' → Near b b' → Near (p.min_p i a b) (min_of a' b')
  min_by~ i u v = near_trans (A.low i _ _) (min~ u v)

  ends~ : (l0 l3 : Float) → EnvelopeNear (ends_by p l0 l3) (ends_by ours l0 l3)
  unfolding ends_by
  ends~ l0 l3 = record { emin = min_by~ end_samples same same; emax = max_by~ end_samples same same; smin = refl; smax = refl }

  pub shape~ : (k g : List Float) (l0 l3 : Float) → EnvelopeNear (shape_by p k g l0 l3) (shape_by ours k g l0 l3)
  unfolding shape_by
  shape~ k g l0 l3 = go (lt f0 (discriminant_of k)) refl where
    go : (t : Bool) → lt f0 (discriminant_of k) ≡ t → EnvelopeNear (shape_by p k g l0 l3) (shape_by ours k g l0 l3)
    go true h = rw (sym (above_equal (near_sym (A.high under_root (discriminant_of k) f0)) (rw (above_zero (discriminant_of k) h) h))) (turns~ k g _ (ends~ l0 l3))
    go false h = rw (rootless k g (sqrt_of (p.max_p under_root (discriminant_of k) f0)) (sqrt_of (max_of (discriminant_of k) f0)) (ends_by p l0 l3) h) (turns~ k g _ (ends~ l0 l3))

  pub envelope~ : (t g l : List Float) → EnvelopeNear (envelope_by p t g l) (envelope_of t g l)
  unfolding envelope_by
  envelope~ t g l = shape~ (coeffs_of t l) g (l at 0) (l at 3)

  pub owns~ : (l : List Float) (is_max : Bool) → owns_by p l is_max ≡ owns_by ours l is_max
  unfolding owns_by
  owns~ l true = lt~ (max_by~ outer_pair same same) (max_by~ inner_pair same same)
  owns~ l false = lt~ (min_by~ inner_pair same same) (min_by~ outer_pair same same)

  pub band~ : (g : List Float) (s : Float) → BandNear (band_by p g s) (band_by ours g s)
  unfolding band_by
  band~ g s = record { low = max_by~ band_cut same same; high = min_by~ band_cut same same }

  better~ : (k : List Float) (sign : Float) {low low' high high' a a' : Float} (st : Option Float) → Near low low' → Near high high' → Near a a' →
      Near (better_by p k sign low high a st) (better_by ours k sign low' high' a' st)
  unfolding better_by
  better~ k sign (Some s) u v h = cond~ (and~ (lt~ u same) (lt~ same v)) (max_by~ turning_point h same) h
  better~ k sign None u v h = h

  pub extreme~ : (k : List Float) {low low' high high' : Float} (is_max : Bool) → Near low low' → Near high high' → Near (extreme_by p k low high is_max) (extreme_by ours k low' high' is_max)
  unfolding extreme_by
  extreme~ k is_max u v =
      cond~ {b = finite_cubic k} refl (mul~ same (better~ k (sign_of is_max) (stationary_of k is_max) u v (max_by~ band_ends (mul~ same (horner~ k u)) (mul~ same (horner~ k v))))) same
