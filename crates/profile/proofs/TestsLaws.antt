-- Laws of tests in an order: what is told is told by the first that fails, and by no other. Assumes nothing.
use Prim.Native.Nat.{ℕ, zero, suc, ◌<◌}
use native.Mathlib.Omega.{arith}
use native.Mathlib.Nat.{not-suc-le-zero}
use mathlib.Core.Path.{◌≡◌, refl, sym, ap, ◌∙◌, subst}
use mathlib.Core.List.{List, [], ◌∷◌}
use mathlib.Core.Bool.{Bool, true, false, false≢true}
use mathlib.Core.Logic.{◌⊎◌, inl, inr}
use Rattle.profile.specs.Tests.{Test, first_told, passes, told_at, FirstFails, AllPass}

module _ {A : Type 0} where
  later : (t : Test A) (ts : List (Test A)) (k : ℕ) → FirstFails (t ∷ ts) (suc k) → FirstFails ts k
  unfolding passes
  later t ts k f = record { fails = f.fails; earlier = λ j less. f.earlier (suc j) (omega arith) }

  -- of two first failures the places are one
  pub first_once : (ts : List (Test A)) (j k : ℕ) → FirstFails ts j → FirstFails ts k → j ≡ k
  unfolding passes
  first_once [] j k f g = absurd (false≢true (sym f.fails))
  first_once (t ∷ ts) zero zero f g = refl
  first_once (t ∷ ts) zero (suc k) f g = absurd (false≢true (sym f.fails ∙ g.earlier 0 (omega arith)))
  first_once (t ∷ ts) (suc j) zero f g = absurd (false≢true (sym g.fails ∙ f.earlier 0 (omega arith)))
  first_once (t ∷ ts) (suc j) (suc k) f g = ap suc (first_once ts j k (later t ts j f) (later t ts k g))

  -- where a test is the first that fails, not each passes
  pub first-not-all : (ts : List (Test A)) (k : ℕ) → FirstFails ts k → AllPass ts → ⊥
  first-not-all ts k f a = false≢true (sym f.fails ∙ a.passing k)

  -- each passes, or one is the first that fails
  pub all_or_first : (ts : List (Test A)) → AllPass ts ⊎ ((k : ℕ) × FirstFails ts k)
  unfolding passes
  all_or_first [] = inl (record { passing = λ k. refl })
  all_or_first (t ∷ ts) = go t.holds refl (all_or_first ts)
    where
      go : (b : Bool) → t.holds ≡ b → AllPass ts ⊎ ((k : ℕ) × FirstFails ts k) → AllPass (t ∷ ts) ⊎ ((k : ℕ) × FirstFails (t ∷ ts) k)
      go false e further = inr (0, record { fails = e; earlier = λ j less. absurd (not-suc-le-zero less) })
      go true e (inl a) = inl (record { passing = at })
        where
          at : (k : ℕ) → passes (t ∷ ts) k ≡ true
          at zero = e
          at (suc k) = a.passing k
      go true e (inr (k, f)) = inr (suc k, record { fails = f.fails; earlier = before })
        where
          before : (j : ℕ) → j < suc k → passes (t ∷ ts) j ≡ true
          before zero less = e
          before (suc j) less = f.earlier j (omega arith)

  -- where each passes, the given is told
  pub all_told : (given : A) (ts : List (Test A)) → AllPass ts → first_told given ts ≡ given
  unfolding passes first_told
  all_told given [] a = refl
  all_told given (t ∷ ts) a = rw (a.passing 0) (all_told given ts (record { passing = λ k. a.passing (suc k) }))

  -- the first that fails tells
  pub first-told : (given : A) (ts : List (Test A)) (k : ℕ) → FirstFails ts k → first_told given ts ≡ told_at given ts k
  unfolding passes first_told told_at
  first-told given [] k f = refl
  first-told given (t ∷ ts) zero f = rw f.fails
  first-told given (t ∷ ts) (suc k) f = rw (f.earlier 0 (omega arith)) (first-told given ts k (later t ts k f))

-- ---- an answer that is given, or absent for a cause

-- an answer is told by tests, each of which tells a cause of its own: that of w stands at its place
pub record Told {A W : Type 0} (ts : List (Test A)) (given answer : A) (absent : W → A) (place_of : W → ℕ) : Type 0 where
  pub is : answer ≡ first_told given ts
  pub tells : (w : W) → told_at given ts (place_of w) ≡ absent w
  pub placed : (k : ℕ) → FirstFails ts k → (w : W) × (place_of w ≡ k)
  pub one : (w w' : W) → absent w ≡ absent w' → w ≡ w'
  pub apart : (w : W) → given ≡ absent w → ⊥

module _ {A W : Type 0} {ts : List (Test A)} {given answer : A} {absent : W → A} {place_of : W → ℕ} (told : Told ts given answer absent place_of) where
  -- the first test that fails is the cause given, and no other
  pub first_absent : (w : W) → FirstFails ts (place_of w) → answer ≡ absent w
  first_absent w f = told.is ∙ first-told given ts (place_of w) f ∙ told.tells w

  -- where each passes, the answer is given
  pub all-given : AllPass ts → answer ≡ given
  all-given a = told.is ∙ all_told given ts a

  -- each passes, or one cause's test is the first that fails
  pub all_or_cause : AllPass ts ⊎ ((w : W) × FirstFails ts (place_of w))
  all_or_cause = go (all_or_first ts)
    where
      go : AllPass ts ⊎ ((k : ℕ) × FirstFails ts k) → AllPass ts ⊎ ((w : W) × FirstFails ts (place_of w))
      go (inl a) = inl a
      go (inr (k, f)) = let q = told.placed k f in inr (q.0, subst (λ (j : ℕ). FirstFails ts j) (sym q.1) f)

  -- a cause that is given is the first test that fails
  pub absent-first : (w : W) → answer ≡ absent w → FirstFails ts (place_of w)
  absent-first w e = go all_or_cause
    where
      go : AllPass ts ⊎ ((v : W) × FirstFails ts (place_of v)) → FirstFails ts (place_of w)
      go (inl a) = absurd (told.apart w (sym (all-given a) ∙ e))
      go (inr (v, f)) = subst (λ (u : W). FirstFails ts (place_of u)) (told.one v w (sym (first_absent v f) ∙ e)) f

  -- where no cause is given, each passes
  pub present_all : ((w : W) → answer ≡ absent w → ⊥) → AllPass ts
  present_all n = go all_or_cause
    where
      go : AllPass ts ⊎ ((w : W) × FirstFails ts (place_of w)) → AllPass ts
      go (inl a) = a
      go (inr (w, f)) = absurd (n w (first_absent w f))
