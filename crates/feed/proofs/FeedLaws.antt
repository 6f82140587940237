-- What a column's checks say, and what the code leaves of a column that it takes. Assumes nothing.
use Rattle.std.specs.Prelude.{Result, Ok, Err, ⊤}
use Prim.Native.Nat.{ℕ, ◌-◌, ◌*◌, ◌≤◌, ◌<◌}
use native.Mathlib.Nat.{zero-add}
use native.Mathlib.Omega.{arith}
use mathlib.Core.Path.{◌≡◌, refl, sym}
use mathlib.Core.Bool.{Bool, true, false, not, cond}
use mathlib.Core.List.{List, []}
use lib.Dec.{ltb, leb, eqb}
use lib.ListN.{length}
use lib.Ieee.{Float}
use borrow.Author.Tests.{lt-ltb, le-ltb, ltb-false, leb-true, leb-false, eqb-true, not-false}
use Rattle.float.proofs.Bools.{neither}
use Rattle.tables.specs.declared.Set.{Set}
use Rattle.tables.specs.declared.Refusal.{Refusal}
use Rattle.tables.specs.declared.Thresholds.{Thresholds}
use Rattle.tables.specs.declared.Refusal.TheVariants.{Room}
use Rattle.tables.specs.Refusal.{unless, first_of, sides_check, octave_check}
use Rattle.tables.proofs.RefusalLaws.{unless-fine}
use Rattle.checks.specs.Checks.{levels_check}
use Rattle.record.specs.declared.Record.{Record}
use Rattle.record.specs.Layout.{spot_width, lay, Laid}
use Rattle.record.proofs.LayoutLaws.{lay-laid}
use Rattle.ring.specs.declared.State.{State}
use Rattle.samples.specs.Four.{Four, four_of}
use Rattle.ring.specs.Ring.{column_spots, judged_spots, kept, stored}
use Rattle.ring.specs.Lent.{Roomy, Long, height_of}
use Rattle.feed.specs.Feed.{after, past, ring_check, start_checks, started_by, start_of, said, cramped, column_checks, refused, next, fed_by, column_of, output_of}
use Rattle.ring.proofs.SpotsLaws.{judged-height}

-- what a test that failed says
pub not-past : (s : State) → past s ≡ false → (s.rows ≤ 4096) × (s.cols ≤ 4096) × (s.position < s.cols)
unfolding past
not-past s h =
    let a = neither (ltb 4096 s.rows) _ h in
    let b = neither (ltb 4096 s.cols) _ a.1 in
    (ltb-false _ _ a.0, ltb-false _ _ b.0, leb-false _ _ b.1)

pub not_wrong : (rows : ℕ) (g : Four) → (levels_check (length g.l0) (length g.l1) (length g.l2) (length g.l3) rows).holds ≡ false → Long rows g
not_wrong rows g h =
    let a = neither (not (eqb (length g.l0) rows)) _ h in
    let b = neither (not (eqb (length g.l1) rows)) _ a.1 in
    let c = neither (not (eqb (length g.l2) rows)) _ b.1 in
    record {
      l0 = eqb-true _ _ (not-false (eqb (length g.l0) rows) a.0);
      l1 = eqb-true _ _ (not-false (eqb (length g.l1) rows) b.0);
      l2 = eqb-true _ _ (not-false (eqb (length g.l2) rows) c.0);
      l3 = eqb-true _ _ (not-false (eqb (length g.l3) rows) c.1);
    }

pub not_short : (rows : ℕ) (g : Four) → (ring_check rows (length g.l0) (length g.l1) (length g.l2) (length g.l3)).holds ≡ false → Roomy rows g
not_short rows g h =
    let a = neither (ltb (length g.l0) (5 * rows)) _ h in
    let b = neither (ltb (length g.l1) (5 * rows)) _ a.1 in
    let c = neither (ltb (length g.l2) (5 * rows)) _ b.1 in
    record { l0 = ltb-false _ _ a.0; l1 = ltb-false _ _ b.0; l2 = ltb-false _ _ c.0; l3 = ltb-false _ _ c.1 }

not-cramped : (rs : List Record) (out : List ℕ) → cramped rs out ≡ false → length rs * spot_width ≤ length out
unfolding cramped
not-cramped rs out h = ltb-false _ _ h

-- a column that none of its checks refuses
pub record Passed (s : State) (given ring : Four) (out : List ℕ) : Type 0 where
  pub rows-most : s.rows ≤ 4096
  pub cols-most : s.cols ≤ 4096
  pub to_come : s.position < s.cols
  pub long : Long s.rows given
  pub roomy : Roomy s.rows ring
  pub fit : length (judged_spots s ring given) * spot_width ≤ length out

pub passed : (s : State) (given ring : Four) (out : List ℕ) → first_of (column_checks s given ring out) ≡ Ok tt → Passed s given ring out
unfolding column_checks first_of
passed s given ring out h =
    let a = unless-fine (past s) _ _ h in
    let b = unless-fine (levels_check (length given.l0) (length given.l1) (length given.l2) (length given.l3) s.rows).holds _ _ a.1 in
    let c = unless-fine (ring_check s.rows (length ring.l0) (length ring.l1) (length ring.l2) (length ring.l3)).holds _ _ b.1 in
    let d = unless-fine (cramped (judged_spots s ring given) out) _ _ c.1 in
    let n = not-past s a.0 in
    record {
      rows-most = n.0;
      cols-most = n.1;
      to_come = n.2;
      long = not_wrong s.rows given b.0;
      roomy = not_short s.rows ring c.0;
      fit = not-cramped (judged_spots s ring given) out d.0;
    }

-- ---- what the code leaves when but the last check has passed

module _ (s : State) (given ring : Four) (out : List ℕ) (n : ℕ) (high : n ≡ height_of s) where
  listed-is : column_spots s ring given (s.position - 2) n ≡ judged_spots s ring given
  listed-is = rw high (sym (judged-height s ring given))

  -- of a column whose records do not fit
  output_refused : leb (length (column_spots s ring given (s.position - 2) n) * spot_width) (length out) ≡ false → {m : ℕ} {o : List ℕ} → Laid out o 0 m [] → refused Room s ring o ≡ output_of s given ring out
  unfolding first_of unless fed_by cramped lay
  output_refused h laid = rw (laid.bytes, lt-ltb (length out) (length (judged_spots s ring given) * spot_width) (leb-false _ _ (rw listed-is at h)))

  -- of one that it takes
  output_took : leb (length (column_spots s ring given (s.position - 2) n) * spot_width) (length out) ≡ true → {m : ℕ} {o : List ℕ} →
      Laid out o 0 m (column_spots s ring given (s.position - 2) n)
      → after (Ok m) (next s) (stored s ring given) o ≡ output_of s given ring out
  unfolding first_of unless fed_by cramped
  output_took fits laid =
      rw (le-ltb (length out) (length (judged_spots s ring given) * spot_width) (leb-true _ _ (rw listed-is at fits)), laid.count, zero-add, laid.bytes, listed-is, lay-laid)

  -- of either, by whether they fit
  pub output_is : (fits : Bool) → fits ≡ leb (length (column_spots s ring given (s.position - 2) n) * spot_width) (length out) → {m : ℕ} {w : Result ℕ Refusal} {st : State} {a b c d : List Float} {o : List ℕ} →
      Laid out o 0 m (cond fits (column_spots s ring given (s.position - 2) n) [])
      → a ≡ cond fits (kept s.rows s.position ring.l0 given.l0) ring.l0 → b ≡ cond fits (kept s.rows s.position ring.l1 given.l1) ring.l1
      → c ≡ cond fits (kept s.rows s.position ring.l2 given.l2) ring.l2 → d ≡ cond fits (kept s.rows s.position ring.l3 given.l3) ring.l3
      → w ≡ cond fits (Ok m) (Err Room) → st ≡ cond fits (next s) s
      → after w st (four_of a b c d) o ≡ output_of s given ring out
  output_is false fit laid a-is b-is c-is d-is w-is st-is = rw (w-is, st-is, a-is, b-is, c-is, d-is) (output_refused (sym fit) laid)
  output_is true fit laid a-is b-is c-is d-is w-is st-is = rw (w-is, st-is, a-is, b-is, c-is, d-is) (output_took (sym fit) laid)

-- ---- start

-- an octave that passed start's checks is small
pub octave-most : (set : Set) (th : Thresholds) (rows cols octave n0 n1 n2 n3 : ℕ) → first_of (start_checks set th rows cols octave n0 n1 n2 n3) ≡ Ok tt → octave ≤ 5
unfolding start_checks first_of
octave-most set th rows cols octave n0 n1 n2 n3 h =
    let a = unless-fine (sides_check rows cols).holds _ _ h in
    ltb-false 5 octave (unless-fine (octave_check octave).holds _ _ a.1).0

-- what start answers is the first of its checks that holds
pub start-answer : (set : Set) (th : Thresholds) (rows cols octave n0 n1 n2 n3 : ℕ) → said (start_of set th rows cols octave n0 n1 n2 n3) ≡ first_of (start_checks set th rows cols octave n0 n1 n2 n3)
unfolding start_of started_by
start-answer set th rows cols octave n0 n1 n2 n3 = go (first_of (start_checks set th rows cols octave n0 n1 n2 n3))
  where
    go : (w : Result ⊤ Refusal) → said (started_by w set th rows cols octave) ≡ w
    go (Err r) = refl
    go (Ok _) = refl

-- a column that is taken passed all its checks
pub taken_passed : (s : State) (given ring : Four) (out : List ℕ) (n : ℕ) → (column_of s given ring out).answer ≡ Ok n → Passed s given ring out
unfolding column_of fed_by
taken_passed s given ring out n e = go (first_of (column_checks s given ring out)) refl e
  where
    go : (w : Result ⊤ Refusal) → first_of (column_checks s given ring out) ≡ w → (fed_by w s given ring out).answer ≡ Ok n → Passed s given ring out
    go (Err r) fine e = let z : ◌≡◌ {A = ℕ} 0 1 = cc in let y : ⊥ = omega arith in absurd y
    go (Ok _) fine e = passed s given ring out fine
