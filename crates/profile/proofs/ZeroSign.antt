-- Whichever zero max gives at two zeros, the profile statistic is the same: the only maximum taken is of four roots above 0. Assumes nothing.
use mathlib.Core.Path.{◌≡◌, refl}
use mathlib.Core.List.{List}
use mathlib.Core.Bool.{Bool, true, false, cond, false≢true, and-false}
use Prim.Native.Nat.{ℕ}
use lib.Ieee.{Float, lt, is_nan, of_bits, odd}
use Rattle.float.specs.Small.{finite, max_of}
use Rattle.float.specs.Num.{f0}
use Rattle.float.proofs.Bools.{both, all_four}
use Rattle.fit.specs.Cubic.{◌at◌}
use Rattle.fit.specs.Near.{Near, same, zeros}
use Rattle.fit.specs.Prims.{Prims, Allowed, ours}
use Rattle.profile.specs.Four.{last_call, first_pair, last_pair, usable, all_usable, squares_of, quotients_of, roots_of, largest_by}
use Rattle.profile.specs.Profile.{usable_roots, scaled_by, statistic_by}

-- near a number above 0 stands that number alone
positive_alone : {x y : Float} → Near x y → lt f0 y ≡ true → x ≡ y
unfolding lt of_bits odd
positive_alone same h = refl
positive_alone (zeros {t = true}) h = absurd (false≢true h)
positive_alone (zeros {t = false}) h = absurd (false≢true h)

max_positive : (a b : Float) → lt f0 a ≡ true → lt f0 b ≡ true → lt f0 (max_of a b) ≡ true
unfolding max_of
max_positive a b p q = go (is_nan a) (lt a b)
  where
    go : (s t : Bool) → lt f0 (cond s b (cond t b a)) ≡ true
    go true t = q
    go false true = q
    go false false = p

usable_positive : (x : Float) → usable x ≡ true → lt f0 x ≡ true
unfolding usable
usable_positive x h = (both (finite x) (lt f0 x) h).1

module _ (p : Prims) (allowed : Allowed p) where
  max-same : (call : ℕ) (a b : Float) → lt f0 a ≡ true → lt f0 b ≡ true → p.max_p call a b ≡ max_of a b
  max-same call a b h k = positive_alone (allowed.high call a b) (max_positive a b h k)

  module _ (a b c d : Float) (h : lt f0 a ≡ true) (i : lt f0 b ≡ true) (j : lt f0 c ≡ true) (k : lt f0 d ≡ true) where
    largest_of_positive : p.max_p last_call (p.max_p first_pair a b) (p.max_p last_pair c d) ≡ max_of (max_of a b) (max_of c d)
    largest_of_positive = rw (max-same first_pair a b h i, max-same last_pair c d j k) (max-same last_call (max_of a b) (max_of c d) (max_positive a b h i) (max_positive c d j k))

  largest-same : (v : List Float) → all_usable v ≡ true → largest_by p v ≡ largest_by ours v
  unfolding largest_by all_usable
  largest-same v h =
      let each = all_four (usable (v at 0)) (usable (v at 1)) (usable (v at 2)) (usable (v at 3)) h in
      largest_of_positive (v at 0) (v at 1) (v at 2) (v at 3)
      (usable_positive (v at 0) each.0)
      (usable_positive (v at 1) each.1)
      (usable_positive (v at 2) each.2)
      (usable_positive (v at 3) each.3)

  scaled-same : (x q : List Float) → scaled_by p x q ≡ scaled_by ours x q
  unfolding scaled_by usable_roots
  scaled-same x q = go (all_usable (roots_of q)) refl
    where
      go : (b : Bool) → all_usable (roots_of q) ≡ b → scaled_by p x q ≡ scaled_by ours x q
      go true h = rw (largest-same (roots_of q) h)
      go false h = rw (h, and-false)

  pub statistic-same : (sigmas l : List Float) → statistic_by p sigmas l ≡ statistic_by ours sigmas l
  unfolding statistic_by
  statistic-same sigmas l = rw (scaled-same (squares_of sigmas) (quotients_of (squares_of sigmas) l))
