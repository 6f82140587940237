-- A line that nothing is written of, one with one entry more, and a line that lies apart from what is written. Assumes nothing.
use Prim.Native.Nat.{ℕ, ◌+◌, ◌≤◌, ◌<◌}
use mathlib.Core.Path.{◌≡◌, refl, sym, ap, ◌∙◌, subst}
use mathlib.Core.Logic.{◌⊎◌, inl, inr}
use mathlib.Core.List.{List}
use native.Mathlib.Nat.{not-suc-le-zero, zero-add}
use native.Mathlib.Omega.{arith}
use lib.ListN.{length, get_or, set, length-set}
use lib.Seq.{get_or-set_same, get_or-set_other}
use borrow.Author.Count.{below_more}
use Rattle.columns.specs.Line.{Line, Written}

module _ {A : Type 0} (d : A) where
  -- before anything is written
  pub written_none : (l : List A) (z : ℕ) (P : ℕ → A → Type 0) → Written d l l z 0 P
  written_none l z P = record { line = λ i h. absurd (not-suc-le-zero h); same = λ j h. refl; long = refl }

  -- one entry more
  pub written-more : {before l : List A} {z i : ℕ} {P : ℕ → A → Type 0} (after : List A) (v : A) → Written d before l z i P → z + i < length before → after ≡ set l (z + i) v → P i v → Written d before after z (i + 1) P
  written-more {before} {l} {z} {i} {P} after v w inside e is = record {
    line = below_more (λ j. P j (get_or after (z + j) d)) i
        (λ j h. subst (P j) (sym (ap (λ (x : List A). get_or x (z + j) d) e ∙ get_or-set_other l (z + i) (z + j) v d (apart z i j h))) (w.line j h))
        (subst (P i) (sym (ap (λ (x : List A). get_or x (z + i) d) e ∙ get_or-set_same l (z + i) v d (subst (λ (n : ℕ). z + i < n) (sym w.long) inside))) is);
    same = λ j h. ap (λ (x : List A). get_or x j d) e ∙ get_or-set_other l (z + i) j v d (outside z i j h) ∙ w.same j (wider z i j h);
    long = ap length e ∙ length-set l (z + i) v ∙ w.long;
  }
    where
      apart : (z i j : ℕ) → j < i → z + j ≡ z + i → ⊥
      apart z i j h p = omega arith

      outside : (z i j : ℕ) → (j < z) ⊎ (z + (i + 1) ≤ j) → j ≡ z + i → ⊥
      outside z i j (inl h) p = omega arith
      outside z i j (inr h) p = omega arith

      wider : (z i j : ℕ) → (j < z) ⊎ (z + (i + 1) ≤ j) → (j < z) ⊎ (z + i ≤ j)
      wider z i j (inl h) = inl h
      wider z i j (inr h) = inr (omega arith)

  -- the same for a line from the start on
  pub written_next : {before l : List A} {i : ℕ} {P : ℕ → A → Type 0} (v : A) → Written d before l 0 i P → i < length before → P i v → Written d before (set l i v) 0 (i + 1) P
  written_next {l = l} {i = i} v w inside is = written-more (set l i v) v w (rw zero-add inside) (rw zero-add refl) is

  -- a line apart from it is kept
  pub line_kept : {before after : List A} {z n : ℕ} {P : ℕ → A → Type 0} (y m : ℕ) (Q : ℕ → A → Type 0) → Written d before after z n P → (y + m ≤ z) ⊎ (z + n ≤ y) → Line d before y m Q → Line d after y m Q
  line_kept {z = z} {n = n} y m Q w away l i h = subst (Q i) (sym (w.same (y + i) (go away))) (l i h)
    where
      go : (y + m ≤ z) ⊎ (z + n ≤ y) → (y + i < z) ⊎ (z + n ≤ y + i)
      go (inl p) = inl (omega arith)
      go (inr p) = inr (omega arith)
