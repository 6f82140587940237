-- What is left of a column: from its words, its packed codes, the thinned ones and those that raised a pixel. Assumes nothing.
use Prim.Native.Nat.{ℕ, zero, suc, ◌+◌, ◌/◌, ◌%◌, ◌≤◌, ◌<◌}
use native.Mathlib.Nat.{zero-add, le_of_eq}
use native.Mathlib.Omega.{arith}
use mathlib.Core.Path.{◌≡◌, refl, sym, ap, ◌∙◌, subst}
use mathlib.Core.Bool.{Bool, true, false, cond}
use mathlib.Core.Logic.{◌⊎◌, inl, inr}
use mathlib.Core.List.{List}
use lib.Dec.{leb}
use lib.ListN.{length, get_or}
use lib.Ieee.{Float}
use borrow.Author.Tests.{leb-false}
use Rattle.tables.specs.declared.Set.{Set}
use Rattle.columns.specs.Line.{Written}
use Rattle.rivals.specs.List.{Among, Packed, Thinned, Raised}
use Rattle.rivals.specs.Near.{reached_of}
use Rattle.rivals.specs.Ends.{survives_of}
use Rattle.rivals.specs.Off.{code_of, bit_of, Off, unmarked, reached, fallen, Thin}
use Rattle.rivals.proofs.ListLaws.{thinned_code}
use Rattle.rivals.proofs.EndsLaws.{raised_code}
use Rattle.rivals.proofs.OffRules.{code_row}

-- 1 for a word of 4 or more
abbrev pub unsure : List ℕ → ℕ → ℕ → ℕ
unsure w y i = cond (leb 4 (get_or w (y + i + 1) 0)) 1 0

digit : (n : ℕ) → n < 2 → (n ≡ 0) ⊎ (n ≡ 1)
digit zero h = inl refl
digit (suc zero) h = inr refl
digit (suc (suc n)) h = let z : ⊥ = omega arith in absurd z

-- a bit is 0 or 1
pub bit_either : (w : ℕ) (is_max : Bool) → (bit_of w is_max ≡ 0) ⊎ (bit_of w is_max ≡ 1)
bit_either w true = digit (w / 2 % 2) (omega arith)
bit_either w false = digit (w % 2) (omega arith)

-- an empty word has no bit
pub no_bit : (w : ℕ) → w ≤ 0 → (is_max : Bool) → bit_of w is_max ≡ 0
no_bit w h true = omega arith
no_bit w h false = omega arith

at_most_one : (t : Bool) → cond t 1 0 ≤ 1
at_most_one true = omega arith
at_most_one false = omega arith

pub zero_not-one : (n : ℕ) → n ≡ 0 → n ≡ 1 → ⊥
zero_not-one n a b = omega arith

-- a pixel whose word has the polarity's bit is packed
pub packed_among : {n y m : ℕ} {w codes : List ℕ} → Packed n y w codes m → (i : ℕ) → i < n → (is_max : Bool) → bit_of (get_or w (y + i + 1) 0) is_max ≡ 1 → Among codes m (code_of i is_max)
packed_among packed i h true e = packed.high i h e
packed_among packed i h false e = packed.low i h e

module _ (y : ℕ) (w keep keep₁ : List ℕ) (opened : Written 0 keep keep₁ 0 256 (λ i x. x ≡ unsure w y i)) where
  opened_at : (i : ℕ) → i < 256 → get_or keep₁ i 0 ≡ unsure w y i
  opened_at i h = ap (λ (n : ℕ). get_or keep₁ n 0) (sym (zero-add i)) ∙ opened.line i h

  -- a 0 is that of a word below 4
  pub small_word : (i : ℕ) → i < 256 → (get_or keep₁ i 0 ≡ 1 → ⊥) → get_or w (y + i + 1) 0 < 4
  small_word i h none = go (leb 4 (get_or w (y + i + 1) 0)) refl
    where
      go : (t : Bool) → leb 4 (get_or w (y + i + 1) 0) ≡ t → get_or w (y + i + 1) 0 < 4
      go true e = absurd (none (opened_at i h ∙ ap (λ (t : Bool). cond t 1 0) e))
      go false e = leb-false 4 (get_or w (y + i + 1) 0) e

  -- nothing but 0 and 1 is kept, at first and after a list has raised its pixels
  pub opened-bits : (i : ℕ) → i < 256 → get_or keep₁ i 0 ≤ 1
  opened-bits i h = subst (λ (x : ℕ). x ≤ 1) (sym (opened_at i h)) (at_most_one (leb 4 (get_or w (y + i + 1) 0)))

  pub raised_bits : {Q : ℕ → Type 0} {codes : List ℕ} {k : ℕ} {keep₂ : List ℕ} → Raised Q codes k keep₁ keep₂ → (i : ℕ) → i < 256 → get_or keep₂ i 0 ≤ 1
  raised_bits {keep₂ = keep₂} raised i h = either (raised.bits i)
    where
      either : (get_or keep₂ i 0 ≡ get_or keep₁ i 0) ⊎ (get_or keep₂ i 0 ≡ 1) → get_or keep₂ i 0 ≤ 1
      either (inl e) = subst (λ (x : ℕ). x ≤ 1) (sym e) (opened-bits i h)
      either (inr e) = le_of_eq e

  module _ (s : Set) (ratio : Float) (n x z : ℕ) (a b c d p v : List Float) (short : n ≤ 254) (long : length keep ≡ 256) where
    -- a column without a bit
    pub thin_none : ((i : ℕ) → i < n → get_or w (y + i + 1) 0 ≤ 0) → Thin s ratio n x y z a b c d p v w keep₁
    thin_none none = record {
      sure = λ i h e. let o = none i h in omega arith;
      off = λ i h e is_max. unmarked (no_bit (get_or w (y + i + 1) 0) (none i h) is_max);
      bits = opened-bits;
      long = opened.long ∙ long;
    }

    -- one whose candidates are listed
    module _ (codes codes₁ : List ℕ) (m k : ℕ) (keep₂ : List ℕ)
        (packed : Packed n y w codes m) (thinned : Thinned (λ e. reached_of s.sigmas x y z e p v ≡ true) codes m codes₁ k)
        (raised : Raised (λ e. survives_of s ratio x y z e a b c d p v ≡ false) codes₁ k keep₁ keep₂) where
      by_list : (i : ℕ) → i < n → get_or keep₂ i 0 ≡ 0 → (is_max : Bool) → bit_of (get_or w (y + i + 1) 0) is_max ≡ 1 → Off s ratio x y z a b c d p v w i is_max
      by_list i h e is_max bit = first (thinned_code thinned (packed_among packed i h is_max bit))
        where
          last : (get_or keep₂ (code_of i is_max % 780) 0 ≡ 1) ⊎ (survives_of s ratio x y z (code_of i is_max) a b c d p v ≡ false) → Off s ratio x y z a b c d p v w i is_max
          last (inl up) = absurd (zero_not-one (get_or keep₂ i 0) e (subst (λ (j : ℕ). get_or keep₂ j 0 ≡ 1) (code_row is_max i (omega arith)) up))
          last (inr q) = fallen bit q

          first : Among codes₁ k (code_of i is_max) ⊎ (reached_of s.sigmas x y z (code_of i is_max) p v ≡ true) → Off s ratio x y z a b c d p v w i is_max
          first (inl l) = last (raised_code raised l)
          first (inr q) = reached bit q

      pub thin_listed : Thin s ratio n x y z a b c d p v w keep₂
      thin_listed = record {
        sure = λ i h e. small_word i (omega arith) (λ up. zero_not-one (get_or keep₂ i 0) e (raised.stays i up));
        off = λ i h e is_max. by_bit i h e is_max (bit_either (get_or w (y + i + 1) 0) is_max);
        bits = raised_bits raised;
        long = raised.long ∙ opened.long ∙ long;
      }
        where
          by_bit : (i : ℕ) → i < n → get_or keep₂ i 0 ≡ 0 → (is_max : Bool) → (bit_of (get_or w (y + i + 1) 0) is_max ≡ 0) ⊎ (bit_of (get_or w (y + i + 1) 0) is_max ≡ 1) → Off s ratio x y z a b c d p v w i is_max
          by_bit i h e is_max (inl none) = unmarked none
          by_bit i h e is_max (inr one) = by_list i h e is_max one
