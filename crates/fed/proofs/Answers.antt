-- When a call is refused, and by what: the first of its checks that holds, by their places. Assumes nothing.
use Rattle.std.specs.Prelude.{true, Result, Ok, Err, ⊤}
use Prim.Native.Nat.{ℕ, ◌*◌, ◌≤◌}
use mathlib.Core.Path.{◌≡◌, refl, sym, ap, ◌∙◌}
use mathlib.Core.List.{List}
use mathlib.Core.Logic.{◌↔◌}
use lib.Dec.{leb}
use lib.ListN.{length}
use borrow.Author.Tests.{le-ltb}
use Rattle.tables.specs.declared.Set.{Set}
use Rattle.tables.specs.declared.Thresholds.{Thresholds}
use Rattle.tables.specs.declared.Refusal.{Refusal}
use Rattle.tables.specs.Refusal.{first_of, First}
use Rattle.tables.proofs.RefusalLaws.{first-refused, refused-first}
use Rattle.ring.specs.declared.State.{State}
use Rattle.samples.specs.Four.{Four}
use Rattle.ring.specs.Ring.{judged_spots}
use Rattle.feed.specs.declared.Unstarted.{Unstarted}
use Rattle.feed.specs.Feed.{start_checks, started_by, start_of, not_started, said, past, column_checks, fed_by, column_of}
use Rattle.ring.proofs.SpotsLaws.{judged-short}
use Rattle.feed.proofs.FeedLaws.{start-answer}

-- ---- start

module _ (set : Set) (th : Thresholds) (rows cols octave n0 n1 n2 n3 : ℕ) where
  -- Start refuses with r, and with the state of no rows and no cols beside it, exactly when of its checks, in the order 1, 3, 8, 4, 6, that one is the first that holds.
  pub start_refuses : (r : Refusal) → (start_of set th rows cols octave n0 n1 n2 n3 ≡ Err (not_started set th r)) ↔ First (start_checks set th rows cols octave n0 n1 n2 n3) r
  unfolding start_of started_by
  start_refuses r =
      let is = start-answer set th rows cols octave n0 n1 n2 n3 in (
        λ e. first-refused (start_checks set th rows cols octave n0 n1 n2 n3) r (sym is ∙ ap said e),
        λ f. rw (refused-first (start_checks set th rows cols octave n0 n1 n2 n3) r f),
      )

  -- No other refusal is answered, and the state beside it takes no column.
  pub start_refused : (w : Unstarted) → start_of set th rows cols octave n0 n1 n2 n3 ≡ Err w → (w ≡ not_started set th w.why) × (past w.state ≡ true)
  unfolding start_of started_by past
  start_refused w = go (first_of (start_checks set th rows cols octave n0 n1 n2 n3))
    where
      go : (v : Result ⊤ Refusal) → started_by v set th rows cols octave ≡ Err w → (w ≡ not_started set th w.why) × (past w.state ≡ true)
      go (Err r) e = let same : not_started set th r ≡ w = cc in rw (← same) (refl, refl)
      go (Ok _) e = cc

-- ---- a column

module _ (s : State) (given ring : Four) (out : List ℕ) where
  by_answer : (w : Result ⊤ Refusal) (r : Refusal) → (fed_by w s given ring out).answer ≡ Err r → w ≡ Err r
  unfolding fed_by
  by_answer (Err q) r e = let same : q ≡ r = cc in rw same
  by_answer (Ok _) r e = cc

  -- A column is refused with r exactly when of its checks, in the order 9, 2, 6 for the ring, 6 for the output, that one is the first that holds.
  pub column_refuses : (r : Refusal) → ((column_of s given ring out).answer ≡ Err r) ↔ First (column_checks s given ring out) r
  unfolding column_of fed_by
  column_refuses r = (
    λ e. first-refused (column_checks s given ring out) r (by_answer (first_of (column_checks s given ring out)) r e),
    λ f. rw (refused-first (column_checks s given ring out) r f),
  )

  -- Otherwise it is taken, and its count answered: at most two for each row.
  pub column_takes : first_of (column_checks s given ring out) ≡ Ok tt → ((column_of s given ring out).answer ≡ Ok (length (judged_spots s ring given))) × (length (judged_spots s ring given) ≤ 2 * s.rows)
  unfolding column_of fed_by
  column_takes e = (rw e, judged-short s ring given)

-- A state that start made, or that followed from one, is past exactly when all columns have come.
pub past_is : (s : State) → s.rows ≤ 4096 → s.cols ≤ 4096 → past s ≡ leb s.cols s.position
unfolding past
past_is s h k = rw (le-ltb 4096 s.rows h, le-ltb 4096 s.cols k)
