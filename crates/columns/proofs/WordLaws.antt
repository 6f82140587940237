-- Laws of the words of a line. Assumes nothing.
use Prim.Native.Nat.{ℕ, ◌+◌, ◌/◌, ◌%◌, ◌≤◌, ◌<◌}
use native.Mathlib.Nat.{not-suc-le-zero, le_trans}
use native.Mathlib.Omega.{arith}
use mathlib.Core.Path.{◌≡◌, refl, subst}
use mathlib.Core.Bool.{Bool, true, false, cond, ◌&&◌, ◌||◌}
use mathlib.Core.List.{List}
use lib.ListN.{length, set}
use lib.Bits.{bit_or, or_add_and, or_comm, and_le_l}
use borrow.Author.Count.{below_more}
use lib.Ieee.{Float, lt}
use Rattle.float.specs.Num.{f0}
use Rattle.fit.specs.Owned.{owned_by}
use Rattle.columns.specs.Gate.{pass_of, word_of, word_at, Words}
use Rattle.columns.specs.declared.Window.{Window}
use Rattle.columns.proofs.LineLaws.{written_none, written-more}

-- a number exceeds neither of the two of which it is the or
or_right : (a b : ℕ) → b ≤ bit_or a b
or_right a b = let s = or_add_and a b in let l = and_le_l a b in omega arith

or_left : (a b : ℕ) → a ≤ bit_or a b
or_left a b = subst (λ (x : ℕ). a ≤ x) (or_comm b a) (or_right b a)

module _ (g : Window) (s0 s1 s2 s3 r p v : List Float) (z : ℕ) (w : List ℕ) where
  pub words-none : Words g s0 s1 s2 s3 r p v z 0 w w 0
  words-none = record { words = written_none 0 w z _; under = λ i h. absurd (not-suc-le-zero h) }

  pub words_more : (i x most : ℕ) {w₁ : List ℕ} → Words g s0 s1 s2 s3 r p v z i w w₁ most → z + i < length w → x ≡ word_at g s0 s1 s2 s3 r p v z i → Words g s0 s1 s2 s3 r p v z (i + 1) w (set w₁ (z + i) x) (bit_or most x)
  words_more i x most h long e = record {
    words = written-more 0 _ x h.words long refl e;
    under = below_more (λ j. word_at g s0 s1 s2 s3 r p v z j ≤ bit_or most x) i (λ j b. le_trans (h.under j b) (or_left most x)) (subst (λ (y : ℕ). y ≤ bit_or most x) e (or_right most x));
  }

-- ---- what a word says where a bit is not set
digits : (a b c : Bool) → ((cond a 1 0 + cond b 2 0 + cond c 4 0) % 2 ≡ 0 → a ≡ false) × ((cond a 1 0 + cond b 2 0 + cond c 4 0) / 2 % 2 ≡ 0 → b ≡ false) × (cond a 1 0 + cond b 2 0 + cond c 4 0 < 4 → c ≡ false)
digits false false false = (λ h. refl, λ h. refl, λ h. refl)
digits false false true = (λ h. refl, λ h. refl, λ h. absurd (over h))
  where
    over : 4 < 4 → ⊥
    over h = omega arith
digits false true false = (λ h. refl, λ h. let z : ⊥ = omega arith in absurd z, λ h. refl)
digits false true true = (λ h. refl, λ h. let z : ⊥ = omega arith in absurd z, λ h. let z : ⊥ = omega arith in absurd z)
digits true false false = (λ h. let z : ⊥ = omega arith in absurd z, λ h. refl, λ h. refl)
digits true false true = (λ h. let z : ⊥ = omega arith in absurd z, λ h. refl, λ h. let z : ⊥ = omega arith in absurd z)
digits true true false = (λ h. let z : ⊥ = omega arith in absurd z, λ h. let z : ⊥ = omega arith in absurd z, λ h. refl)
digits true true true = (λ h. let z : ⊥ = omega arith in absurd z, λ h. let z : ⊥ = omega arith in absurd z, λ h. let z : ⊥ = omega arith in absurd z)

ones : (a b c : Bool) → ((cond a 1 0 + cond b 2 0 + cond c 4 0) % 2 ≡ 1 → a ≡ true) × ((cond a 1 0 + cond b 2 0 + cond c 4 0) / 2 % 2 ≡ 1 → b ≡ true)
ones false false false = (λ h. let z : ⊥ = omega arith in absurd z, λ h. let z : ⊥ = omega arith in absurd z)
ones false false true = (λ h. let z : ⊥ = omega arith in absurd z, λ h. let z : ⊥ = omega arith in absurd z)
ones false true c = (λ h. absurd (even c h), λ h. refl)
  where
    even : (c : Bool) → (0 + 2 + cond c 4 0) % 2 ≡ 1 → ⊥
    even true h = omega arith
    even false h = omega arith
ones true false c = (λ h. refl, λ h. absurd (even c h))
  where
    even : (c : Bool) → (1 + 0 + cond c 4 0) / 2 % 2 ≡ 1 → ⊥
    even true h = omega arith
    even false h = omega arith
ones true true c = (λ h. refl, λ h. refl)

module _ (g : Window) (l : List Float) (p v q u root : Float) where
  pub low-on : word_of g l p v q u root % 2 ≡ 1 → (owned_by l false && pass_of g p v) ≡ true
  unfolding word_of
  low-on h = (ones (owned_by l false && pass_of g p v) (owned_by l true && pass_of g q u) ((owned_by l false || owned_by l true) && (lt root f0 || g.wild))).0 h

  pub high-on : word_of g l p v q u root / 2 % 2 ≡ 1 → (owned_by l true && pass_of g q u) ≡ true
  unfolding word_of
  high-on h = (ones (owned_by l false && pass_of g p v) (owned_by l true && pass_of g q u) ((owned_by l false || owned_by l true) && (lt root f0 || g.wild))).1 h

  pub low-off : word_of g l p v q u root % 2 ≡ 0 → (owned_by l false && pass_of g p v) ≡ false
  unfolding word_of
  low-off h = (digits (owned_by l false && pass_of g p v) (owned_by l true && pass_of g q u) ((owned_by l false || owned_by l true) && (lt root f0 || g.wild))).0 h

  pub high-off : word_of g l p v q u root / 2 % 2 ≡ 0 → (owned_by l true && pass_of g q u) ≡ false
  unfolding word_of
  high-off h = (digits (owned_by l false && pass_of g p v) (owned_by l true && pass_of g q u) ((owned_by l false || owned_by l true) && (lt root f0 || g.wild))).1 h

  pub open_off : word_of g l p v q u root < 4 → ((owned_by l false || owned_by l true) && (lt root f0 || g.wild)) ≡ false
  unfolding word_of
  open_off h = (digits (owned_by l false && pass_of g p v) (owned_by l true && pass_of g q u) ((owned_by l false || owned_by l true) && (lt root f0 || g.wild))).2 h
