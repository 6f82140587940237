-- What a column's own lines and the cubics beside it rule out lists nothing. Assumes nothing.
use Rattle.std.specs.Prelude.{None}
use Prim.Native.Nat.{ℕ, zero, suc, ◌+◌, ◌/◌, ◌%◌, ◌≤◌, ◌<◌}
use native.Mathlib.Nat.{zero-add}
use native.Mathlib.Omega.{arith}
use mathlib.Core.Path.{◌≡◌, refl, sym, ap, ◌∙◌, subst}
use mathlib.Core.Bool.{Bool, true, false, cond, ◌||◌}
use mathlib.Core.List.{List, []}
use lib.Dec.{eqb}
use lib.ListN.{length, get_or}
use lib.Ieee.{Float}
use Rattle.tables.specs.declared.Set.{Set}
use Rattle.tables.specs.declared.Thresholds.{Thresholds}
use Rattle.fit.specs.Cubic.{◌at◌, coeffs_of}
use Rattle.fit.specs.Band.{sign_of, band_of}
use Rattle.pixel.specs.Verdict.{verdict_of}
use Rattle.pixel.specs.Rules.{cubics_at, own_samples}
use Rattle.pixel.specs.declared.Frame.{Frame}
use Rattle.columns.specs.Stat.{cubic_in}
use Rattle.rivals.specs.Near.{reaches_at}
use Rattle.rivals.specs.Ends.{ends_at, nine_in}
use Rattle.rivals.specs.Off.{code_of, bit_of}
use Rattle.rivals.specs.Ready.{ReadyAt, Slot}
use Rattle.rivals.proofs.OffRules.{code_row, code_high, either_of, cubics_in, unmarked-rules, rule_point, rule_end, rule_refused}
use Rattle.nine.specs.Nine.{nine_beside}
use Rattle.sides.specs.Beside.{upright_of, beside_of, taken_of, CubicsAt}

-- ---- the nine samples, place by place

nine_long : (l : ℕ → ℕ → List Float) (i : ℕ) → length (nine_beside l i) ≡ 9
unfolding nine_beside
nine_long l i = refl

nine_place : (l : ℕ → ℕ → List Float) (i j : ℕ) → j < 9 → get_or (nine_beside l i) j [] ≡ l (j % 3) (i + j / 3)
unfolding nine_beside
nine_place l i zero h = ap (l 0) (omega arith)
nine_place l i (suc zero) h = ap (l 1) (omega arith)
nine_place l i (suc (suc zero)) h = ap (l 2) (omega arith)
nine_place l i (suc (suc (suc zero))) h = refl
nine_place l i (suc (suc (suc (suc zero)))) h = refl
nine_place l i (suc (suc (suc (suc (suc zero))))) h = refl
nine_place l i (suc (suc (suc (suc (suc (suc zero)))))) h = refl
nine_place l i (suc (suc (suc (suc (suc (suc (suc zero))))))) h = refl
nine_place l i (suc (suc (suc (suc (suc (suc (suc (suc zero)))))))) h = refl
nine_place l i (suc (suc (suc (suc (suc (suc (suc (suc (suc j))))))))) h = let n : ⊥ = omega arith in absurd n

-- place q of the polarity's lines, from the code on
code_at : (t : Bool) (i q : ℕ) → code_of i t + q ≡ cond t (780 + (i + q)) (i + q)
code_at true i q = omega arith
code_at false i q = refl

-- and the first of them
code_first : (t : Bool) (i : ℕ) → code_of i t ≡ cond t (780 + (i + 0)) (i + 0)
code_first true i = omega arith
code_first false i = omega arith

-- what rules the i-th pixel out at a polarity: its word has not the bit; or it has it, and an upright neighbour, one beside it or the refinement rules the candidate out
pub data Aside (s : Set) (ratio : Float) (l : ℕ → ℕ → List Float) (a b c d p v : List Float) (w : List ℕ) (i : ℕ) (is_max : Bool) : Type 0 where
  unmarked : bit_of (get_or w (i + 1) 0) is_max ≡ 0 → Aside s ratio l a b c d p v w i is_max
  upright : bit_of (get_or w (i + 1) 0) is_max ≡ 1 → upright_of s.sigmas (code_of i is_max) a b c d p v ≡ true → Aside s ratio l a b c d p v w i is_max
  beside : bit_of (get_or w (i + 1) 0) is_max ≡ 1 → CubicsAt s (l 0) 260 i a b c d → CubicsAt s (l 2) 520 i a b c d → beside_of s.sigmas (code_of i is_max) a b c d p v ≡ true → Aside s ratio l a b c d p v w i is_max
  refused : bit_of (get_or w (i + 1) 0) is_max ≡ 1 → CubicsAt s (l 0) 260 i a b c d → CubicsAt s (l 2) 520 i a b c d → taken_of s ratio (code_of i is_max) a b c d p ≡ false → Aside s ratio l a b c d p v w i is_max

module _ (s : Set) (th : Thresholds) (f : Frame) (l : ℕ → ℕ → List Float) (row col n i : ℕ) (a b c d p v : List Float) (w : List ℕ) (short : n ≤ 254) (inside : i < n)
    (slot : Slot s th (l 1) 0 (n + 2) a b c d p v w) where
  abbrev nine : List (List Float)
  nine = nine_beside l i

  long : length nine ≡ 9
  long = nine_long l i

  narrow : i < 254
  narrow = omega arith

  -- the three of the own column
  ready : (q : ℕ) → q < 3 → ReadyAt s th (l 1 (i + q)) a b c d p v w (i + q)
  ready q h = subst (λ (m : ℕ). ReadyAt s th (l 1 (i + q)) a b c d p v w m) (zero-add (i + q)) (slot (i + q) (omega arith))

  -- the j-th of the nine, which is one of them
  upright_ready : (j : ℕ) → j < 9 → j % 3 ≡ 1 → ReadyAt s th (get_or nine j []) a b c d p v w (i + j / 3)
  upright_ready j h e =
      subst (λ (k : List Float). ReadyAt s th k a b c d p v w (i + j / 3)) (sym (nine_place l i j h ∙ ap (λ (r : ℕ). l r (i + j / 3)) e)) (ready (j / 3) (omega arith))

  own : ReadyAt s th (own_samples nine) a b c d p v w (i + 1)
  own = upright_ready 4 (omega arith) refl

  module _ (is_max : Bool) (small : get_or w (i + 1) 0 < 4) (set : bit_of (get_or w (i + 1) 0) is_max ≡ 1) where
    abbrev e : ℕ
    e = code_of i is_max

    point_at : (j idx : ℕ) → j < 9 → j % 3 ≡ 1 → eqb j 4 ≡ false → idx ≡ cond is_max (780 + (i + j / 3)) (i + j / 3) →
        reaches_at (band_of s.sigmas (p at (e + 1))) (v at (e + 1)) p v idx ≡ true → verdict_of s th f nine row col is_max ≡ None
    point_at j idx h up other =
        rule_point s th f nine row col (i + 1) a b c d p v w long own is_max small set (e + 1) (code_at is_max i 1) j (i + j / 3) idx h other (upright_ready j h up)

    end_at : (j m : ℕ) → j < 9 → eqb j 4 ≡ false → cubic_in a b c d m ≡ coeffs_of s.scale (l (j % 3) (i + j / 3)) →
        ends_at a b c d (sign_of is_max) (v at (e + 1)) (band_of s.sigmas (p at (e + 1))) m ≡ true → verdict_of s th f nine row col is_max ≡ None
    end_at j m h other is =
        rule_end s th f nine row col (i + 1) a b c d p v w long own is_max small set (e + 1) (code_at is_max i 1) j (cubic_in a b c d m) h other (is ∙ ap (coeffs_of s.scale) (sym (nine_place l i j h)))

    -- one of those above and below it
    upright_rules : upright_of s.sigmas e a b c d p v ≡ true → verdict_of s th f nine row col is_max ≡ None
    unfolding upright_of
    upright_rules t =
        either_of _ _ (rw (code_row is_max i narrow, code_high is_max i narrow) at t)
        (λ k. either_of _ _ k (point_at 1 e (omega arith) refl refl (code_first is_max i)) (point_at 7 (e + 2) (omega arith) refl refl (code_at is_max i 2)))
        (λ k. either_of _ _ k (end_at 1 i (omega arith) refl (ap (cubic_in a b c d) first ∙ (ready 0 (omega arith)).cubic)) (end_at 7 (i + 2) (omega arith) refl (ready 2 (omega arith)).cubic))
      where
        first : i ≡ i + 0
        first = omega arith

    module _ (before : CubicsAt s (l 0) 260 i a b c d) (after : CubicsAt s (l 2) 520 i a b c d) where
      -- one of the six beside it
      beside_rules : beside_of s.sigmas e a b c d p v ≡ true → verdict_of s th f nine row col is_max ≡ None
      unfolding beside_of
      beside_rules t =
          either_of _ _ (rw (code_row is_max i narrow, code_high is_max i narrow) at t)
          (λ k. three k
          (end_at 0 (260 + i) (omega arith) refl (ap (cubic_in a b c d) (first 260) ∙ before 0 (omega arith)))
          (end_at 3 (260 + i + 1) (omega arith) refl (before 1 (omega arith)))
          (end_at 6 (260 + i + 2) (omega arith) refl (before 2 (omega arith))))
          (λ k. three k
          (end_at 2 (520 + i) (omega arith) refl (ap (cubic_in a b c d) (first 520) ∙ after 0 (omega arith)))
          (end_at 5 (520 + i + 1) (omega arith) refl (after 1 (omega arith)))
          (end_at 8 (520 + i + 2) (omega arith) refl (after 2 (omega arith))))
        where
          first : (z : ℕ) → z + i ≡ z + i + 0
          first z = omega arith

          three : {P : Type 0} {x y z : Bool} → (x || y || z) ≡ true → (x ≡ true → P) → (y ≡ true → P) → (z ≡ true → P) → P
          three {x = true} k px py pz = px refl
          three {x = false} {y = true} k px py pz = py refl
          three {x = false} {y = false} k px py pz = pz k

      -- the nine cubics are those of the nine samples
      cubic_at_lem : (q r : ℕ) → q < 3 → r < 3 → cubic_in a b c d (cond (eqb r 0) 260 (cond (eqb r 1) 0 520) + i + q) ≡ coeffs_of s.scale (l r (i + q))
      cubic_at_lem q zero h k = before q h
      cubic_at_lem q (suc zero) h k = let o : 0 + i + q ≡ i + q = omega arith in ap (cubic_in a b c d) o ∙ (ready q h).cubic
      cubic_at_lem q (suc (suc zero)) h k = after q h
      cubic_at_lem q (suc (suc (suc r))) h k = let o : ⊥ = omega arith in absurd o

      cubics : nine_in 260 0 520 i a b c d ≡ cubics_at s nine
      cubics = cubics_in s nine 260 0 520 i a b c d long (λ j h. cubic_at_lem (j / 3) (j % 3) (omega arith) (omega arith) ∙ ap (coeffs_of s.scale) (sym (nine_place l i j h)))

      -- the refinement
      refused-rules : taken_of s th.ratio e a b c d p ≡ false → verdict_of s th f nine row col is_max ≡ None
      unfolding taken_of
      refused-rules t =
          rule_refused s th f nine row col (i + 1) a b c d p v w long own is_max small set (e + 1) (code_at is_max i 1) (nine_in 260 0 520 i a b c d) cubics (rw (code_row is_max i narrow, code_high is_max i narrow) at t)

  -- a pixel that is ruled out at a polarity lists nothing there
  pub side_rules : (is_max : Bool) → get_or w (i + 1) 0 < 4 → Aside s th.ratio l a b c d p v w i is_max → verdict_of s th f nine row col is_max ≡ None
  side_rules is_max small (unmarked h) = unmarked-rules s th f nine row col (i + 1) a b c d p v w long own is_max small h
  side_rules is_max small (upright h t) = upright_rules is_max small h t
  side_rules is_max small (beside h before after t) = beside_rules is_max small h before after t
  side_rules is_max small (refused h before after t) = refused-rules is_max small h before after t
