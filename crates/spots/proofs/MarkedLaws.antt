-- How many records the marked pixels can list. Assumes nothing.
use Prim.Native.Nat.{ℕ, zero, suc, ◌+◌, ◌-◌, ◌*◌, ◌≤◌, ◌<◌}
use native.Mathlib.Numerals.{add-one}
use native.Mathlib.Omega.{arith}
use mathlib.Core.Path.{◌≡◌, refl, ap, ◌∙◌}
use mathlib.Core.Bool.{Bool, true, false, cond, not}
use mathlib.Core.List.{List, []}
use lib.Dec.{eqb}
use lib.ListN.{length, get_or, take, length-append}
use borrow.Author.Tests.{eqb-true}
use Rattle.std.specs.List.{count_by}
use Rattle.std.proofs.lemmas.List.Sums.{count_by_more_no, count_by_more_yes}
use Rattle.samples.specs.Four.{Four}
use Rattle.ring.specs.declared.State.{State}
use Rattle.ring.specs.Ring.{pixel_spots, column_spots}
use Rattle.ring.proofs.SpotsLaws.{pixel_short}
use Rattle.spots.specs.Marked.{marked_of}

-- the test of a mark
abbrev pub is_mark : ℕ → Bool
is_mark x = not (eqb x 0)

counted_more : (marks : List ℕ) (n : ℕ) → n < length marks → count_by is_mark (take (n + 1) marks) ≡ count_by is_mark (take n marks) + cond (eqb (get_or marks n 0) 0) 0 1
counted_more marks n h = go (eqb (get_or marks n 0) 0) refl
  where
    go : (b : Bool) → eqb (get_or marks n 0) 0 ≡ b → count_by is_mark (take (n + 1) marks) ≡ count_by is_mark (take n marks) + cond b 0 1
    go true e = omega (arith, count_by_more_no is_mark marks n 0 h (ap not e))
    go false e = count_by_more_yes is_mark marks n 0 h (ap not e)

-- what a chain counts of the first n
pub marked_counted : (marks : List ℕ) (n : ℕ) → n ≤ length marks → count_by is_mark (take n marks) ≡ marked_of marks n
unfolding marked_of
marked_counted marks zero h = refl
marked_counted marks (suc n) h =
    let before = marked_counted marks n (omega arith) in
    let more = counted_more marks n (omega arith) in
    rw add-one at more ∙ ap (λ (k : ℕ). k + cond (eqb (get_or marks n 0) 0) 0 1) before

-- a pixel without a mark lists nothing, and one with a mark at most two records
pub marked_short : (s : State) (ring given : Four) (n : ℕ) (marks : List ℕ) → ((i : ℕ) → i < n → get_or marks i 0 ≡ 0 → pixel_spots s ring given (i + 4) (s.position - 2) ≡ [])
    → length (column_spots s ring given (s.position - 2) n) ≤ 2 * marked_of marks n
unfolding column_spots marked_of
marked_short s ring given zero marks ruled = omega arith
marked_short s ring given (suc n) marks ruled =
    let before = marked_short s ring given n marks (λ i h. ruled i (omega arith)) in
    omega (arith, length-append (column_spots s ring given (s.position - 2) n) (pixel_spots s ring given (n + 4) (s.position - 2)), before, last (eqb (get_or marks n 0) 0) refl)
  where
    last : (b : Bool) → eqb (get_or marks n 0) 0 ≡ b → length (pixel_spots s ring given (n + 4) (s.position - 2)) ≤ 2 * cond b 0 1
    last true e = rw (ruled n (omega arith) (eqb-true (get_or marks n 0) 0 e)) (omega arith)
    last false e = pixel_short s ring given (n + 4) (s.position - 2)
