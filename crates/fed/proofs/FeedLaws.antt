-- One call: it is refused and leaves all as it was, or it is taken. Assumes nothing.
use Rattle.std.specs.Prelude.{Result, Ok, Err, ⊤}
use Prim.Native.Nat.{ℕ, suc, ◌+◌, ◌-◌, ◌*◌, ◌/◌, ◌≤◌, ◌<◌}
use native.Mathlib.Omega.{arith}
use mathlib.Core.Path.{◌≡◌, refl, ap, ◌∙◌}
use mathlib.Core.Bool.{Bool, true, false, cond, ◌&&◌}
use mathlib.Core.Logic.{◌⊎◌, inl, inr}
use mathlib.Core.List.{List, [], ◌++◌, append-nil}
use lib.Dec.{ltb, leb}
use lib.ListN.{length, take, get_or}
use lib.Seq.{take_all}
use borrow.Author.Tests.{ltb-true, ltb-false, leb-true, leb-false}
use Rattle.tables.specs.declared.Refusal.{Refusal}
use Rattle.tables.specs.Refusal.{first_of}
use Rattle.record.specs.declared.Record.{Record}
use Rattle.record.specs.Layout.{spot_width, bytes_of, laid, written}
use Rattle.record.proofs.LayoutLaws.{laid-first, laid_keeps}
use Rattle.ring.specs.declared.State.{State}
use Rattle.samples.specs.Four.{Four}
use Rattle.ring.specs.Ring.{judges, judged_spots, column_spots}
use Rattle.feed.specs.Feed.{column_checks, refused, took, fed_by, column_of}
use Rattle.feed.proofs.FeedLaws.{Passed, passed}
use Rattle.fed.specs.Held.{map_of, Held, Given}
use Rattle.fed.specs.Order.{columns_due, judged_of}
use Rattle.fed.proofs.HeldLaws.{fed_column}

-- ---- refused, or taken

-- the call is refused: nothing changes
pub record Refuses (s : State) (given ring : Four) (out : List ℕ) : Type 0 where
  pub why_not : Refusal
  pub is : column_of s given ring out ≡ refused why_not s ring out

-- the call is taken
pub record Takes (s : State) (given ring : Four) (out : List ℕ) : Type 0 where
  pub checks : Passed s given ring out
  pub is : column_of s given ring out ≡ took (judged_spots s ring given) s given ring out

module _ (s : State) (given ring : Four) (out : List ℕ) where
  by_checks : (w : Result ⊤ Refusal) → first_of (column_checks s given ring out) ≡ w → Refuses s given ring out ⊎ Takes s given ring out
  unfolding column_of fed_by
  by_checks (Err r) e = inl (record { why_not = r; is = rw e })
  by_checks (Ok _) e = inr (record { checks = passed s given ring out e; is = rw e })

  -- a call is one or the other
  pub call_cases : Refuses s given ring out ⊎ Takes s given ring out
  call_cases = by_checks (first_of (column_checks s given ring out)) refl

  refused-only : (w : Refusal) → (column_of s given ring out).answer ≡ Err w → Refuses s given ring out ⊎ Takes s given ring out → column_of s given ring out ≡ refused w s ring out
  refused-only w e (inl r) = let q = r.is in let same : r.why_not ≡ w = cc in q ∙ ap (λ (x : Refusal). refused x s ring out) same
  refused-only w e (inr t) = let q = t.is in cc

  -- A refusal leaves the state, the ring and the output as they were.
  pub refusal_keeps : (w : Refusal) → (column_of s given ring out).answer ≡ Err w → column_of s given ring out ≡ refused w s ring out
  refusal_keeps w e = refused-only w e call_cases

  -- After a refusal any call, the same column with more room too, gives what it would have given at once.
  pub given_again : (w : Refusal) → (column_of s given ring out).answer ≡ Err w → (given' : Four) (out' : List ℕ)
      → column_of (column_of s given ring out).state given' (column_of s given ring out).ring out' ≡ column_of s given' ring out'
  given_again w e given' out' = rw (refusal_keeps w e)

-- ---- what a taken call hands over

-- where all records fit, the output begins with their bytes
pub all_fit : (rs : List Record) (out : List ℕ) → length rs * spot_width ≤ length out → take (length rs * spot_width) (laid rs out) ≡ bytes_of rs
all_fit rs out h =
    let n : written rs out ≡ length rs = omega arith in
    (rw n at (laid-first rs out)) ∙ rw (take_all (length out / spot_width) rs (omega arith))

-- and keeps all its later bytes
pub later_kept : (rs : List Record) (out : List ℕ) → length rs * spot_width ≤ length out → (i : ℕ) → length rs * spot_width ≤ i → get_or (laid rs out) i 0 ≡ get_or out i 0
later_kept rs out h i k = laid_keeps rs out i (omega arith)

-- ---- what is listed, one column more

module _ (s : State) (l : Four) (ring : Four) (held : Held (map_of s l) s.position ring) (c : Four) (given : Given (map_of s l) s.position c) where
  abbrev Listing : ℕ → List Record
  Listing n = columns_due (map_of s l) (judged_of s.cols n)

  one-judged : 6 ≤ s.position → s.position + 2 < s.cols → Listing s.position ++ column_spots s ring c (s.position - 2) (s.rows - 8) ≡ Listing (s.position + 1)
  unfolding columns_due
  one-judged k t =
      let now-judged : judged_of s.cols s.position ≡ s.position - 6 = omega arith in
      let then-judged : judged_of s.cols (s.position + 1) ≡ suc (s.position - 6) = omega arith in
      let col-is : s.position - 6 + 4 ≡ s.position - 2 = omega arith in
      rw (now-judged, then-judged, col-is, fed_column s l ring held c given (s.position - 2) (s.rows - 8) (omega arith) (omega arith) (omega arith))

  none-judged : judged_of s.cols (s.position + 1) ≡ judged_of s.cols s.position → Listing s.position ++ [] ≡ Listing (s.position + 1)
  none-judged same = rw same (append-nil _)

  too_late : s.cols ≤ s.position + 2 → judged_of s.cols (s.position + 1) ≡ judged_of s.cols s.position
  too_late h = omega arith

  too_soon : s.position < 6 → judged_of s.cols (s.position + 1) ≡ judged_of s.cols s.position
  too_soon h = omega arith

  by-judges : (a b : Bool) → leb 6 s.position ≡ a → ltb (s.position + 2) s.cols ≡ b
      → Listing s.position ++ cond (a && b) (column_spots s ring c (s.position - 2) (s.rows - 8)) [] ≡ Listing (s.position + 1)
  by-judges true true ea eb = one-judged (leb-true 6 s.position ea) (ltb-true (s.position + 2) s.cols eb)
  by-judges true false ea eb = none-judged (too_late (ltb-false (s.position + 2) s.cols eb))
  by-judges false b ea eb = none-judged (too_soon (leb-false 6 s.position ea))

  -- the call lists what the judged columns have then one column more
  pub one_more : Listing s.position ++ judged_spots s ring c ≡ Listing (s.position + 1)
  unfolding judged_spots judges
  one_more = by-judges (leb 6 s.position) (ltb (s.position + 2) s.cols) refl refl
