-- One pass reads exactly the places of its line at most n off, and is finite only where all these are, whatever its taps are. Assumes nothing.
use Prim.Native.Nat.{ℕ, zero, suc, ◌+◌, ◌-◌, ◌≤◌, min}
use native.Mathlib.Nat.{eq-or-lt_of_le, eq-zero-or-pos}
use native.Mathlib.Omega.{arith}
use mathlib.Core.Path.{◌≡◌, subst}
use mathlib.Core.Bool.{true}
use mathlib.Core.Logic.{◌⊎◌, ⊎_elim, inl, inr}
use mathlib.Core.List.{List}
use lib.ListN.{get_or}
use lib.Ieee.{Float, nan}
use Rattle.float.specs.Small.{finite}
use Rattle.float.proofs.Finite.{sum-finite, product_finite}
use Rattle.blur.specs.Blur.{pass_to}
use Rattle.blur.specs.Reach.{off}

-- the place left by one more: nearer than before, at the left end or at the right end
farthest : (place last n p : ℕ) → p ≤ last → off place p ≤ suc n → (off place p ≤ n) ⊎ (place - suc n ≡ p) ⊎ (min (place + suc n) last ≡ p)
farthest place last n p inside h =
    ⊎_elim
    (λ e. ⊎_elim (λ z. inr (inr (omega arith))) (λ k. inr (inl (omega arith))) (eq-zero-or-pos (place - p)))
    (λ k. inl (omega arith))
    (eq-or-lt_of_le h)

-- none off: the place itself
same_place : (a b : ℕ) → off a b ≤ 0 → a ≡ b
same_place a b h = omega arith

module _ (last : ℕ) (taps : List Float) (place : ℕ) (on : place ≤ last) where
  -- Two lines that agree at all places at most n off have the same pass there.
  pub pass_same : (line line' : ℕ → Float) (n : ℕ) → ((p : ℕ) → p ≤ last → off place p ≤ n → line p ≡ line' p)
      → pass_to line last taps place n ≡ pass_to line' last taps place n
  unfolding pass_to
  pass_same line line' zero e = rw (e place on (omega arith))
  pass_same line line' (suc n) e =
      rw (
        pass_same line line' n (λ p h k. e p h (omega arith)),
        e (place - suc n) (omega arith) (omega arith),
        e (min (place + suc n) last) (omega arith) (omega arith),
      )

  -- A pass is finite only where its line is finite at all places at most n off.
  pub pass_finite : (line : ℕ → Float) (n : ℕ) → finite (pass_to line last taps place n) ≡ true
      → (p : ℕ) → p ≤ last → off place p ≤ n → finite (line p) ≡ true
  unfolding pass_to
  pass_finite line zero h p inside k =
      subst (λ (x : ℕ). finite (line x) ≡ true) (same_place place p k) (product_finite (line place) (get_or taps 0 nan) h).0
  pass_finite line (suc n) h p inside k =
      let outer = sum-finite (pass_to line last taps place n) _ h in
      let pair = sum-finite (line (place - suc n)) (line (min (place + suc n) last)) (product_finite _ (get_or taps (suc n) nan) outer.1).0 in
      ⊎_elim
      (λ less. pass_finite line n outer.0 p inside less)
      (⊎_elim
      (λ e. subst (λ (x : ℕ). finite (line x) ≡ true) e pair.0)
      (λ e. subst (λ (x : ℕ). finite (line x) ≡ true) e pair.1))
      (farthest place last n p inside k)
