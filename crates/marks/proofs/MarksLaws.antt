-- Laws of the marks: the digits of a byte, one byte more of a column, and what a mark can be. Assumes nothing.
use Prim.Native.Nat.{ℕ, zero, suc, ◌+◌, ◌*◌, ◌/◌, ◌%◌, ◌^◌, ◌≤◌, ◌<◌}
use native.Mathlib.Nat.{ne_of_lt}
use native.Mathlib.Omega.{arith}
use mathlib.Core.Path.{◌≡◌, refl, ap, ◌∙◌}
use mathlib.Core.Bool.{true, false}
use mathlib.Core.Logic.{◌⊎◌, inl, inr}
use mathlib.Core.List.{List}
use lib.Dec.{eqb}
use lib.ListN.{length, get_or, set, length-set}
use lib.Seq.{get_or-set_same, get_or-set_other}
use borrow.Author.Count.{below_none, below_more}
use Rattle.marks.specs.Marks.{mark_at, Put}

-- ---- the digits of a byte

-- eight numbers of at most 1
pub byte_digits : (f : ℕ → ℕ) → ((j : ℕ) → j < 8 → f j ≤ 1) →
    (j : ℕ) → j < 8 → (f 0 + 2 * f 1 + 4 * f 2 + 8 * f 3 + 16 * (f 4 + 2 * f 5 + 4 * f 6 + 8 * f 7)) / 2 ^ j % 2 ≡ f j
byte_digits f most =
    let h0 = most 0 (omega arith) in
    let h1 = most 1 (omega arith) in
    let h2 = most 2 (omega arith) in
    let h3 = most 3 (omega arith) in
    let h4 = most 4 (omega arith) in
    let h5 = most 5 (omega arith) in
    let h6 = most 6 (omega arith) in
    let h7 = most 7 (omega arith) in
    let more = below_more (λ j. (f 0 + 2 * f 1 + 4 * f 2 + 8 * f 3 + 16 * (f 4 + 2 * f 5 + 4 * f 6 + 8 * f 7)) / 2 ^ j % 2 ≡ f j) in
    more 7 (more 6 (more 5 (more 4 (more 3 (more 2 (more 1 (more 0 (below_none _) (omega arith)) (omega arith)) (omega arith)) (omega arith)) (omega arith)) (omega arith)) (omega arith)) (omega arith)

-- ---- one byte more

-- the first n bytes of a column written, and all other columns kept
pub record Puts (keep : List ℕ) (col n : ℕ) (marks marks' : List ℕ) : Type 0 where
  pub here : (k : ℕ) → k < n → (j : ℕ) → j < 8 → get_or marks' (k * 4096 + col) 0 / 2 ^ j % 2 ≡ get_or keep (8 * k + j) 0
  pub same : (k c : ℕ) → c < 4096 → (c ≡ col → ⊥) → get_or marks' (k * 4096 + c) 0 ≡ get_or marks (k * 4096 + c) 0
  pub long : length marks' ≡ 131072

-- no byte is written yet
pub puts_none : {keep : List ℕ} {col : ℕ} {marks : List ℕ} → length marks ≡ 131072 → Puts keep col 0 marks marks
puts_none long = record { here = below_none _; same = λ k c less other. refl; long = long }

-- the next byte
pub puts_more : {keep : List ℕ} {col n : ℕ} {marks marks' : List ℕ} (v : ℕ) → col < 4096 → n < 32 → ((j : ℕ) → j < 8 → v / 2 ^ j % 2 ≡ get_or keep (8 * n + j) 0) → Puts keep col n marks marks'
    → Puts keep col (n + 1) marks (set marks' (n * 4096 + col) v)
puts_more {keep} {col} {n} {marks} {marks'} v inside below digits p = let long = p.long in record {
  here =
      below_more (λ k. (j : ℕ) → j < 8 → get_or (set marks' (n * 4096 + col) v) (k * 4096 + col) 0 / 2 ^ j % 2 ≡ get_or keep (8 * k + j) 0) n
      (λ k less j b. ap (λ (x : ℕ). x / 2 ^ j % 2) (get_or-set_other marks' (n * 4096 + col) (k * 4096 + col) v 0 (ne_of_lt (omega arith))) ∙ p.here k less j b)
      (λ j b. ap (λ (x : ℕ). x / 2 ^ j % 2) (get_or-set_same marks' (n * 4096 + col) v 0 (omega arith)) ∙ digits j b);
  same = λ k c less other. get_or-set_other marks' (n * 4096 + col) (k * 4096 + c) v 0 (λ e. other (column k c n col less inside e)) ∙ p.same k c less other;
  long = length-set marks' (n * 4096 + col) v ∙ p.long;
}
  where
    column : (k c n col : ℕ) → c < 4096 → col < 4096 → k * 4096 + c ≡ n * 4096 + col → c ≡ col
    column k c n col p q e = omega arith

-- after 32 bytes the column is written
pub puts_all : {keep : List ℕ} {col : ℕ} {marks marks' : List ℕ} → Puts keep col 32 marks marks' → Put keep col marks marks'
unfolding mark_at
puts_all {keep} p = record {
  here = λ i less. p.here (i / 8) (omega arith) (i % 8) (omega arith) ∙ ap (λ (x : ℕ). get_or keep x 0) (whole i);
  same = λ i c less inside other. ap (λ (x : ℕ). x / 2 ^ (i % 8) % 2) (p.same (i / 8) c inside other);
  long = p.long;
}
  where
    whole : (i : ℕ) → 8 * (i / 8) + i % 8 ≡ i
    whole i = omega arith

-- ---- what a mark can be

pub mark_either : (marks : List ℕ) (i col : ℕ) → (mark_at marks i col ≡ 0) ⊎ (mark_at marks i col ≡ 1)
unfolding mark_at
mark_either marks i col = go (mark_at marks i col) (omega arith) where
  go : (n : ℕ) → n < 2 → (n ≡ 0) ⊎ (n ≡ 1)
  go zero h = inl refl
  go (suc zero) h = inr refl
  go (suc (suc n)) h = let z : ⊥ = omega arith in absurd z

pub mark-none : (marks : List ℕ) (i col : ℕ) → eqb (mark_at marks i col) 1 ≡ false → mark_at marks i col ≡ 0
mark-none marks i col h = go (mark_at marks i col) (mark_either marks i col) h where
  go : (n : ℕ) → (n ≡ 0) ⊎ (n ≡ 1) → eqb n 1 ≡ false → n ≡ 0
  go n (inl e) h = e
  go n (inr e) h = let z : true ≡ false = rw e at h in cc
