-- Tests in an order, each with what it tells where it fails. Definitions only.
use Rattle.std.specs.Prelude.{ℕ, zero, suc, ◌<◌, ◌≡◌, List, [], ◌∷◌, Bool, true, false, cond}

-- one test: whether it passes, and what it tells where it does not
pub record Test (A : Type 0) : Type 0 where
  pub holds : Bool
  pub tells : A

infix 20 ◌else◌
-- the test that tells a where b is false
abbrev pub ◌else◌ : {A : Type 0} → Bool → A → Test A
b else a = record { holds = b; tells = a }

-- what the first test that fails tells; given where each passes
unfoldable pub first_told : {A : Type 0} → A → List (Test A) → A
first_told given [] = given
first_told given (t ∷ ts) = cond t.holds (first_told given ts) t.tells

-- whether the test at a place passes, places counted from 0: past the end, it does
unfoldable pub passes : {A : Type 0} → List (Test A) → ℕ → Bool
passes [] k = true
passes (t ∷ ts) zero = t.holds
passes (t ∷ ts) (suc k) = passes ts k

-- what the test at a place tells; given past the end
unfoldable pub told_at : {A : Type 0} → A → List (Test A) → ℕ → A
told_at given [] k = given
told_at given (t ∷ ts) zero = t.tells
told_at given (t ∷ ts) (suc k) = told_at given ts k

-- the test at the place k fails, and each at an earlier place passes
pub record FirstFails {A : Type 0} (ts : List (Test A)) (k : ℕ) : Type 0 where
  pub fails : passes ts k ≡ false
  pub earlier : (j : ℕ) → j < k → passes ts j ≡ true

-- each test passes
pub record AllPass {A : Type 0} (ts : List (Test A)) : Type 0 where
  pub passing : (k : ℕ) → passes ts k ≡ true
