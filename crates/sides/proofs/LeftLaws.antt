-- What is left of a column: from its words, its packed codes, those thinned by its own lines and by the cubics beside them, and those that raised a pixel. Assumes nothing.
use Rattle.std.specs.Prelude.{None}
use Prim.Native.Nat.{ℕ, ◌+◌, ◌%◌, ◌≤◌, ◌<◌}
use native.Mathlib.Omega.{arith}
use mathlib.Core.Path.{◌≡◌, sym, ap, ◌∙◌, subst}
use mathlib.Core.Bool.{Bool, true, false, cond}
use mathlib.Core.Logic.{◌⊎◌, inl, inr}
use mathlib.Core.List.{List}
use lib.Dec.{leb}
use lib.ListN.{length, get_or}
use lib.Ieee.{Float}
use Rattle.tables.specs.declared.Set.{Set}
use Rattle.tables.specs.declared.Thresholds.{Thresholds}
use Rattle.pixel.specs.Verdict.{verdict_of}
use Rattle.pixel.specs.declared.Frame.{Frame}
use Rattle.columns.specs.Line.{Written}
use Rattle.columns.specs.Stat.{cubic_in}
use Rattle.rivals.specs.List.{Among, Packed, Thinned, Raised}
use Rattle.rivals.specs.Off.{code_of, bit_of}
use Rattle.rivals.specs.Ready.{Slot}
use Rattle.rivals.proofs.ListLaws.{thinned_code}
use Rattle.rivals.proofs.EndsLaws.{raised_code}
use Rattle.rivals.proofs.OffRules.{code_row}
use Rattle.rivals.proofs.ThinLaws.{unsure, bit_either, no_bit, zero_not-one, packed_among, small_word, opened-bits, raised_bits}
use Rattle.nine.specs.Nine.{nine_beside}
use Rattle.sides.specs.Beside.{upright_of, beside_of, taken_of, CubicsAt, Left}
use Rattle.sides.proofs.SideRules.{unmarked, upright, beside, refused, side_rules}

-- the place of the i-th pixel in the slot at 0
place : (i : ℕ) → 0 + i + 1 ≡ i + 1
place i = omega arith

-- what the words of the slot at 0 open, by their plain places
pub opened_plain : (w : List ℕ) {keep keep₁ : List ℕ} → Written 0 keep keep₁ 0 256 (λ i x. x ≡ unsure w 0 i) → Written 0 keep keep₁ 0 256 (λ i x. x ≡ cond (leb 4 (get_or w (i + 1) 0)) 1 0)
opened_plain w opened = record { line = λ i h. opened.line i h ∙ ap (λ (m : ℕ). cond (leb 4 (get_or w m 0)) 1 0) (place i); same = opened.same; long = opened.long }

-- and by the slot's
opened-slot : (w : List ℕ) {keep keep₁ : List ℕ} → Written 0 keep keep₁ 0 256 (λ i x. x ≡ cond (leb 4 (get_or w (i + 1) 0)) 1 0) → Written 0 keep keep₁ 0 256 (λ i x. x ≡ unsure w 0 i)
opened-slot w opened = record { line = λ i h. opened.line i h ∙ ap (λ (m : ℕ). cond (leb 4 (get_or w m 0)) 1 0) (sym (place i)); same = opened.same; long = opened.long }

module _ (s : Set) (th : Thresholds) (l : ℕ → ℕ → List Float) (n : ℕ) (a b c d p v : List Float) (w keep keep₁ : List ℕ) (short : n ≤ 254) (long : length keep ≡ 256)
    (slot : Slot s th (l 1) 0 (n + 2) a b c d p v w) (opened : Written 0 keep keep₁ 0 256 (λ i x. x ≡ cond (leb 4 (get_or w (i + 1) 0)) 1 0)) where
  -- a column without a bit
  pub left-none : ((i : ℕ) → i < n → get_or w (i + 1) 0 ≤ 0) → Left s th l n keep₁
  left-none none = record {
    ruled = λ i h e f row col is_max. side_rules s th f l row col n i a b c d p v w short h slot is_max (let o = none i h in omega arith) (unmarked (no_bit (get_or w (i + 1) 0) (none i h) is_max));
    bits = opened-bits 0 w keep keep₁ (opened-slot w opened);
    long = opened.long ∙ long;
  }

  -- one whose candidates are listed; the cubics beside those that its own lines left are gathered in between
  module _ (a' b' c' d' : List Float) (codes codes₁ codes₂ : List ℕ) (m k o : ℕ) (keep₂ : List ℕ)
      (packed : Packed n 0 w codes m) (thinned : Thinned (λ e. upright_of s.sigmas e a b c d p v ≡ true) codes m codes₁ k)
      (same : (j : ℕ) → j < 260 → cubic_in a' b' c' d' j ≡ cubic_in a b c d j)
      (before : (j : ℕ) → j < k → get_or codes₁ j 0 % 780 < n → CubicsAt s (l 0) 260 (get_or codes₁ j 0 % 780) a' b' c' d')
      (after : (j : ℕ) → j < k → get_or codes₁ j 0 % 780 < n → CubicsAt s (l 2) 520 (get_or codes₁ j 0 % 780) a' b' c' d')
      (thinner : Thinned (λ e. beside_of s.sigmas e a' b' c' d' p v ≡ true) codes₁ k codes₂ o)
      (raised : Raised (λ e. taken_of s th.ratio e a' b' c' d' p ≡ false) codes₂ o keep₁ keep₂) where
    -- the own lines stand there still
    stands : Slot s th (l 1) 0 (n + 2) a' b' c' d' p v w
    stands i h =
        let r = slot i h in
        record {
          root = r.root;
          cubic = same (0 + i) (omega arith) ∙ r.cubic;
          known = r.known;
          low-point = r.low-point;
          low-height = r.low-height;
          high-point = r.high-point;
          high-height = r.high-height;
          word = r.word;
        }

    module _ (i : ℕ) (inside : i < n) (zero : get_or keep₂ i 0 ≡ 0) (f : Frame) (row col : ℕ) (is_max : Bool) where
      -- a pixel that is not kept has a word below 4
      small : get_or w (i + 1) 0 < 4
      small = subst (λ (m : ℕ). get_or w m 0 < 4) (place i) (small_word 0 w keep keep₁ (opened-slot w opened) i (omega arith) (λ up. zero_not-one (get_or keep₂ i 0) zero (raised.stays i up)))

      row_is : code_of i is_max % 780 ≡ i
      row_is = code_row is_max i (omega arith)

      -- the cubics beside a candidate that its own lines left
      left : Among codes₁ k (code_of i is_max) → CubicsAt s (l 0) 260 i a' b' c' d'
      left q =
          let pixel = ap (λ (e : ℕ). e % 780) q.is ∙ row_is in
          subst (λ (h : ℕ). CubicsAt s (l 0) 260 h a' b' c' d') pixel (before q.place q.inside (subst (λ (h : ℕ). h < n) (sym pixel) inside))

      right : Among codes₁ k (code_of i is_max) → CubicsAt s (l 2) 520 i a' b' c' d'
      right q =
          let pixel = ap (λ (e : ℕ). e % 780) q.is ∙ row_is in
          subst (λ (h : ℕ). CubicsAt s (l 2) 520 h a' b' c' d') pixel (after q.place q.inside (subst (λ (h : ℕ). h < n) (sym pixel) inside))

      -- one list after the other
      module _ (bit : bit_of (get_or w (i + 1) 0) is_max ≡ 1) where
        last : Among codes₁ k (code_of i is_max) → (get_or keep₂ (code_of i is_max % 780) 0 ≡ 1) ⊎ (taken_of s th.ratio (code_of i is_max) a' b' c' d' p ≡ false) → verdict_of s th f (nine_beside l i) row col is_max ≡ None
        last q (inl up) = absurd (zero_not-one (get_or keep₂ i 0) zero (subst (λ (j : ℕ). get_or keep₂ j 0 ≡ 1) row_is up))
        last q (inr t) = side_rules s th f l row col n i a' b' c' d' p v w short inside stands is_max small (refused bit (left q) (right q) t)

        second : Among codes₁ k (code_of i is_max) → Among codes₂ o (code_of i is_max) ⊎ (beside_of s.sigmas (code_of i is_max) a' b' c' d' p v ≡ true) → verdict_of s th f (nine_beside l i) row col is_max ≡ None
        second q (inl r) = last q (raised_code raised r)
        second q (inr t) = side_rules s th f l row col n i a' b' c' d' p v w short inside stands is_max small (beside bit (left q) (right q) t)

        first : Among codes₁ k (code_of i is_max) ⊎ (upright_of s.sigmas (code_of i is_max) a b c d p v ≡ true) → verdict_of s th f (nine_beside l i) row col is_max ≡ None
        first (inl q) = second q (thinned_code thinner q)
        first (inr t) = side_rules s th f l row col n i a b c d p v w short inside slot is_max small (upright bit t)

      -- it lists nothing
      nothing : (bit_of (get_or w (i + 1) 0) is_max ≡ 0) ⊎ (bit_of (get_or w (i + 1) 0) is_max ≡ 1) → verdict_of s th f (nine_beside l i) row col is_max ≡ None
      nothing (inl none) = side_rules s th f l row col n i a b c d p v w short inside slot is_max small (unmarked none)
      nothing (inr bit) = first bit (thinned_code thinned (packed_among packed i inside is_max (subst (λ (m : ℕ). bit_of (get_or w m 0) is_max ≡ 1) (sym (place i)) bit)))

    pub left-listed : Left s th l n keep₂
    left-listed = record {
      ruled = λ i h e f row col is_max. nothing i h e f row col is_max (bit_either (get_or w (i + 1) 0) is_max);
      bits = raised_bits 0 w keep keep₁ (opened-slot w opened) raised;
      long = raised.long ∙ opened.long ∙ long;
    }
