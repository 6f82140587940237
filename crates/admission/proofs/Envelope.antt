-- The least and the largest value of an envelope are finite where the end samples are, whatever the choice of zeros. Assumes nothing: a stationary point's
-- value counts only where it is finite.
use mathlib.Core.Path.{◌≡◌, refl, ◌∙◌}
use mathlib.Core.Bool.{Bool, true, false, cond, not, ◌&&◌}
use mathlib.Core.List.{List}
use lib.Ieee.{Float, lt, is_nan}
use Rattle.float.specs.Small.{finite, min_of, max_of}
use Rattle.float.specs.Num.{f0}
use Rattle.float.proofs.Bools.{both, all_four}
use Rattle.fit.specs.Cubic.{horner_of, curvature_of}
use Rattle.fit.specs.Prims.{Prims, Allowed}
use Rattle.fit.specs.Envelope.{ends_by, put_low, put_high, turn_of, turns_of, shape_by}
use Rattle.fit.specs.declared.Envelope.{Envelope}
use Rattle.pixel.specs.Gate.{peak_of}
use Rattle.zeros.proofs.NearLaws.{fin~}

record Bounded (e : Envelope) : Type 0 where
  least : finite e.emin ≡ true
  largest : finite e.emax ≡ true

either_finite : (b : Bool) (x y : Float) → finite x ≡ true → finite y ≡ true → finite (cond b x y) ≡ true
either_finite true x y p q = p
either_finite false x y p q = q

min-finite : (a b : Float) → finite a ≡ true → finite b ≡ true → finite (min_of a b) ≡ true
unfolding min_of
min-finite a b p q = either_finite (is_nan a) b _ q (either_finite (lt b a) b a q p)

max-finite : (a b : Float) → finite a ≡ true → finite b ≡ true → finite (max_of a b) ≡ true
unfolding max_of
max-finite a b p q = either_finite (is_nan a) b _ q (either_finite (lt a b) b a q p)

ends_bounded : (p : Prims) → Allowed p → (l0 l3 : Float) → finite l0 ≡ true → finite l3 ≡ true → Bounded (ends_by p l0 l3)
unfolding ends_by
ends_bounded p allowed l0 l3 first last = record {
  least = fin~ (allowed.low 0 l0 l3) ∙ min-finite l0 l3 first last;
  largest = fin~ (allowed.high 0 l0 l3) ∙ max-finite l0 l3 first last;
}

low_bounded : (b : Bool) (v s : Float) (e : Envelope) → (b ≡ true → finite v ≡ true) → Bounded e → Bounded (put_low b v s e)
unfolding put_low
low_bounded true v s e p h = record { least = p refl; largest = h.largest }
low_bounded false v s e p h = h

high_bounded : (b : Bool) (v s : Float) (e : Envelope) → (b ≡ true → finite v ≡ true) → Bounded e → Bounded (put_high b v s e)
unfolding put_high
high_bounded true v s e p h = record { least = h.least; largest = p refl }
high_bounded false v s e p h = h

-- of the tests of a stationary point, the one of its value
value_tested : (ok v c m w l : Bool) → (ok && v && c && m && w && l) ≡ true → v ≡ true
value_tested ok v c m w l h = (all_four ok v c m (both (ok && v && c && m) w (both (ok && v && c && m && w) l h).0).0).1

turn_bounded : (k : List Float) (s : Float) (ok is_min : Bool) (e : Envelope) → Bounded e → Bounded (turn_of k s ok is_min e)
unfolding turn_of
turn_bounded k s ok is_min e h =
    let matches = cond is_min (lt f0 (curvature_of k s)) (lt (curvature_of k s) f0) in
    high_bounded _ (horner_of k s) s _ (value_tested ok (finite (horner_of k s)) (finite (curvature_of k s)) matches (not is_min) _)
    (low_bounded _ (horner_of k s) s e (value_tested ok (finite (horner_of k s)) (finite (curvature_of k s)) matches is_min _) h)

turns_bounded : (k g : List Float) (root : Float) (e : Envelope) → Bounded e → Bounded (turns_of k g root e)
unfolding turns_of
turns_bounded k g root e h = turn_bounded k _ _ _ _ (turn_bounded k _ _ _ e h)

-- the peak of either polarity is finite where the end samples are
pub peak-finite : (p : Prims) → Allowed p → (k g : List Float) (l0 l3 : Float) (is_max : Bool) → finite l0 ≡ true → finite l3 ≡ true → finite (peak_of (shape_by p k g l0 l3) is_max) ≡ true
unfolding peak_of shape_by
peak-finite p allowed k g l0 l3 is_max first last =
    let bounded = turns_bounded k g _ (ends_by p l0 l3) (ends_bounded p allowed l0 l3 first last) in
    either_finite is_max _ _ bounded.largest bounded.least
