-- What facts that can hold give. Assumes nothing.
use Prim.Native.Nat.{ℕ, zero, suc}
use mathlib.Core.Path.{◌≡◌, refl, sym, ap, ◌∙◌}
use mathlib.Core.Logic.{∥∥₁_prop, ∥∥₁_elim, ∥∥₁_map}
use seplogic.Ra.Ura.{Ura}
use seplogic.Bi.Sat
use seplogic.Bi.Sat.{Sat}
use base.Logic.{sep, emp, fst∗, Sat_exists}
use contract.Monad.{fact}

-- what is left of n parameters that lend nothing to change, and then of the others
abbrev pub Untouched : ℕ → Type 0 → Type 0
Untouched zero W = W
Untouched (suc n) W = Unit {0} × Untouched n W

abbrev pub untouched : {W : Type 0} (n : ℕ) → W → Untouched n W
untouched zero ws = ws
untouched (suc n) ws = (tt, untouched n ws)

module _ {M : Type 1} (𝓤 : Ura M) where
  -- of two facts that can hold together the first can
  pub first_can : (φ ψ : Type 0) → Sat 𝓤.op (sep 𝓤 (fact 𝓤 φ) (fact 𝓤 ψ)) → Sat 𝓤.op (fact 𝓤 φ)
  first_can φ ψ = Sat.mono 𝓤.op (fst∗ 𝓤 (fact 𝓤 φ) (fact 𝓤 ψ))

  -- a fact that can hold does
  told : (φ : Type 0) → Sat 𝓤.op (fact 𝓤 φ) → ∥ φ ∥₁
  told φ s = ∥∥₁_map (Sat_exists 𝓤 (λ (_ : φ). emp 𝓤) s) (λ t. t.0)

  -- and two of them do
  pub both_told : {φ ψ χ : Type 0} → (φ → ψ → χ) → Sat 𝓤.op (fact 𝓤 φ) → Sat 𝓤.op (fact 𝓤 ψ) → ∥ χ ∥₁
  both_told {φ} {ψ} f s t = ∥∥₁_elim (told φ s) ∥∥₁_prop (λ p. ∥∥₁_map (told ψ t) (λ q. f p q))

  -- where both say that what is left is one value, so is all that can be read off it
  pub one_value : {L R W : Type 0} (value o o' : L) (answer : L → R) (lasts : L → W)
      → Sat 𝓤.op (fact 𝓤 (o ≡ value)) → Sat 𝓤.op (fact 𝓤 (o' ≡ value)) → ∥ (answer o ≡ answer o') × (lasts o ≡ lasts o') ∥₁
  one_value value o o' answer lasts = both_told (λ p q. (ap answer (p ∙ sym q), ap lasts (p ∙ sym q)))

  -- a call that lends nothing leaves its answer alone
  pub one_answer : {R W : Type 0} (value : R) {r r' : R} {ws : W} → Sat 𝓤.op (fact 𝓤 (r ≡ value)) → Sat 𝓤.op (fact 𝓤 (r' ≡ value)) → ∥ (r ≡ r') × (ws ≡ ws) ∥₁
  one_answer value = both_told (λ p q. (p ∙ sym q, refl))
