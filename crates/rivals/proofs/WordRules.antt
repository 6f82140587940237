-- A word whose bit of a polarity and whose open bit are not set rules the pixel out at that polarity. Assumes nothing.
use Rattle.std.specs.Prelude.{None}
use Prim.Native.Nat.{ℕ, ◌/◌, ◌%◌, ◌<◌}
use mathlib.Core.Path.{◌≡◌, refl, sym, ap, ◌∙◌}
use mathlib.Core.List.{List}
use mathlib.Core.Bool.{Bool, true, false, true≢false, false≢true, cond, ◌&&◌, ◌||◌, and_assoc}
use lib.Ieee.{Float, lt, le, neg, of_bits, odd}
use Rattle.float.specs.Num.{f0, f1}
use Rattle.float.proofs.Bools.{neither}
use Rattle.tables.specs.declared.Set.{Set}
use Rattle.tables.specs.declared.Thresholds.{Thresholds}
use Rattle.fit.specs.Cubic.{coeffs_of}
use Rattle.fit.specs.Envelope.{within}
use Rattle.fit.specs.Band.{sign_of}
use Rattle.fit.specs.Owned.{owned_by}
use Rattle.pixel.specs.Verdict.{verdict_of}
use Rattle.pixel.specs.Rules.{own_samples}
use Rattle.pixel.specs.declared.Frame.{Frame}
use Rattle.pixel.proofs.RuleOut.{wild, passes, unowned_off, nowhere-off, point-off, gate_rules}
use Rattle.columns.specs.Coef.{under_root}
use Rattle.columns.specs.Known.{Known}
use Rattle.columns.specs.Stat.{point_of, height_of, Told, point, nowhere}
use Rattle.columns.specs.Gate.{pass_of, word_of}
use Rattle.columns.proofs.CoefLaws.{coefficient_fits}
use Rattle.columns.proofs.StatLaws.{told-by}
use Rattle.columns.proofs.WordLaws.{low-off, high-off, open_off}
use Rattle.rivals.specs.Window.{window_of}

-- -1 is below 0
minus_below : lt (neg f1) f0 ≡ true
unfolding lt neg of_bits odd
minus_below = refl

not-unknown : (root : Float) → lt root f0 ≡ false → root ≡ neg f1 → ⊥
not-unknown root h e = true≢false (sym minus_below ∙ ap (λ (x : Float). lt x f0) (sym e) ∙ h)

-- the tests of a point, grouped as the gates group them
grouped : (th : Thresholds) (a : Bool) (p v : Float) → (a && pass_of (window_of th) p v) ≡ (a && within th.low th.high p && lt th.peak v)
unfolding pass_of within
grouped th a p v = sym (and_assoc a (le th.low p && le p th.high) (lt th.peak v))

either_true : (is_max low high : Bool) → cond is_max high low ≡ true → (low || high) ≡ true
either_true true true high h = refl
either_true true false high h = h
either_true false true high h = refl
either_true false false high h = absurd (false≢true h)

second : (a b : Bool) → (a && b) ≡ false → a ≡ true → b ≡ false
second true b h e = h
second false b h e = absurd (false≢true e)

module _ (s : Set) (th : Thresholds) (f : Frame) (nine : List (List Float)) (row col : ℕ) (is_max : Bool) where
  abbrev l : List Float
  l = own_samples nine

  abbrev k : List Float
  k = coeffs_of s.scale l

  -- the gates fail, told the point of the polarity
  told-off : (p v : Float) → wild th ≡ false → Told k is_max p v → (owned_by l is_max && pass_of (window_of th) p v) ≡ false → passes th s.scale l s.sigmas is_max ≡ false
  told-off p v tame (point e h) off = point-off th s.scale l s.sigmas is_max p v tame e h (sym (grouped th (owned_by l is_max) p v) ∙ off)
  told-off p v tame (nowhere e z) off = nowhere-off th s.scale l s.sigmas is_max tame e

  -- from the root and the points of both polarities
  pub word-rules : (root : Float) → Known root (under_root k) →
      let w : ℕ = word_of (window_of th) l (point_of (sign_of false) k root) (height_of (sign_of false) k root) (point_of (sign_of true) k root) (height_of (sign_of true) k root) root in
      w < 4 → cond is_max (w / 2 % 2) (w % 2) ≡ 0 → verdict_of s th f nine row col is_max ≡ None
  word-rules root known small off = gate_rules s th f nine row col is_max (go (owned_by l is_max) refl)
    where
      p : Bool → Float
      p t = point_of (sign_of t) k root

      v : Bool → Float
      v t = height_of (sign_of t) k root

      tests : (t : Bool) → cond t (word_of (window_of th) l (p false) (v false) (p true) (v true) root / 2 % 2) (word_of (window_of th) l (p false) (v false) (p true) (v true) root % 2) ≡ 0 → (owned_by l t && pass_of (window_of th) (p t) (v t)) ≡ false
      tests true h = high-off (window_of th) l (p false) (v false) (p true) (v true) root h
      tests false h = low-off (window_of th) l (p false) (v false) (p true) (v true) root h

      owned : (t : Bool) → owned_by l t ≡ true → (owned_by l false || owned_by l true) ≡ true
      owned true h = either_true true (owned_by l false) (owned_by l true) h
      owned false h = either_true false (owned_by l false) (owned_by l true) h

      go : (t : Bool) → owned_by l is_max ≡ t → passes th s.scale l s.sigmas is_max ≡ false
      go false e = unowned_off th s.scale l s.sigmas is_max e
      go true e =
          let shut = neither (lt root f0) (wild th) (second (owned_by l false || owned_by l true) _ (open_off (window_of th) l (p false) (v false) (p true) (v true) root small) (owned is_max e)) in
          told-off (p is_max) (v is_max) shut.1 (told-by k is_max (coefficient_fits s.scale l) root known (not-unknown root shut.0)) (tests is_max off)
