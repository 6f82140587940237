-- The two calls over bytes: by what they refuse, and what they leave. Assumes nothing.
use Rattle.std.specs.Prelude.{Result, Ok, Err}
use Prim.Native.Nat.{ℕ, ◌+◌, ◌≤◌, ◌<◌}
use native.Mathlib.Omega.{arith}
use mathlib.Core.Path.{◌≡◌, refl, sym, ap, ◌∙◌}
use mathlib.Core.Bool.{Bool, true, false}
use mathlib.Core.List.{List, [], ◌∷◌, ◌++◌}
use lib.ListN.{length}
use lib.Seq.{sets}
use borrow.Author.Tests.{lt-ltb, le-ltb, ltb-false, not-false}
use Rattle.words.specs.Words.{word_from}
use Rattle.tables.specs.declared.Set.{Set}
use Rattle.tables.specs.declared.Thresholds.{Thresholds}
use Rattle.tables.specs.declared.Refusal.{Refusal}
use Rattle.tables.specs.declared.Refusal.TheVariants.{Room, Past}
use Rattle.tables.specs.Set.{good}
use Rattle.tables.specs.Refusal.{number, value, Check, unless, first_of, sides_check, octave_check, thresholds_check, set_check, read_or_blank}
use Rattle.tables.proofs.SetLaws.{read_good, good-long}
use Rattle.tables.proofs.RefusalLaws.{unless-fine, sides_most}
use Rattle.ring.specs.declared.State.{State}
use Rattle.samples.specs.Four.{Four}
use Rattle.feed.specs.declared.Unstarted.{Unstarted}
use Rattle.feed.specs.Feed.{start_checks, start_of, said, After, after, column_of}
use Rattle.feed.proofs.FeedLaws.{start-answer, taken_passed}
use Rattle.states.specs.Bytes.{state_width, state_of, opened_bytes, state_check, bytes_checks, start_left, start_left_by, start_bytes, column_left, column_left_by, column_bytes}

-- ---- checks after checks

bad-first : (cs ds : List Check) (r : Refusal) → first_of cs ≡ Err r → first_of (cs ++ ds) ≡ Err r
unfolding first_of unless
bad-first [] ds r e = let z : ◌≡◌ {A = ℕ} 0 1 = cc in let y : ⊥ = omega arith in absurd y
bad-first (c ∷ cs) ds r e = go c.holds e (λ k. bad-first cs ds r k)
  where
    go : (t : Bool) → unless t c.refusal (first_of cs) ≡ Err r → (first_of cs ≡ Err r → first_of (cs ++ ds) ≡ Err r) → unless t c.refusal (first_of (cs ++ ds)) ≡ Err r
    go true e later = e
    go false e later = later e

fine_then : (cs ds : List Check) → first_of cs ≡ Ok tt → first_of (cs ++ ds) ≡ first_of ds
unfolding first_of unless
fine_then [] ds e = refl
fine_then (c ∷ cs) ds e = let p = unless-fine c.holds c.refusal (first_of cs) e in rw p.0 (fine_then cs ds p.1)

-- ---- start

module _ (set : List ℕ) (th : Thresholds) (rows cols octave n0 n1 n2 n3 : ℕ) (state : List ℕ) where
  abbrev own : List Check
  own = start_checks (read_or_blank set) th rows cols octave n0 n1 n2 n3

  -- what start's own checks say of the record and of the numbers
  pub record Sound : Type 0 where
    pub long : length set ≡ 528
    pub rows-most : rows ≤ 4096
    pub cols-most : cols ≤ 4096
    pub octave-most : octave ≤ 5

  pub sound : first_of own ≡ Ok tt → Sound
  unfolding start_checks first_of
  sound e =
      let a = unless-fine (sides_check rows cols).holds _ _ e in
      let b = unless-fine (octave_check octave).holds _ _ a.1 in
      let c = unless-fine (thresholds_check th).holds _ _ b.1 in
      let d = unless-fine (set_check (read_or_blank set)).holds _ _ c.1 in
      let most = sides_most rows cols a.0 in
      record {
        long = good-long set (sym (read_good set) ∙ not-false (good (read_or_blank set)) d.0);
        rows-most = most.0;
        cols-most = most.1;
        octave-most = ltb-false 5 octave b.0;
      }

  -- start's own answer is that of its checks
  pub own-answer : (read : Set) (started : Result State Unstarted) → read ≡ read_or_blank set → started ≡ start_of read th rows cols octave n0 n1 n2 n3 → (w : Result State Unstarted) → started ≡ w → first_of own ≡ said w
  own-answer read started er es w e =
      sym (start-answer (read_or_blank set) th rows cols octave n0 n1 n2 n3)
      ∙ ap (λ (r : Set). said (start_of r th rows cols octave n0 n1 n2 n3)) (sym er) ∙ ap said (sym es ∙ e)

  pub start-bad : (r : Refusal) → first_of own ≡ Err r → start_left (number r) state ≡ start_bytes set th rows cols octave n0 n1 n2 n3 state
  unfolding start_bytes bytes_checks start_left_by
  start-bad r e = rw (bad-first own (state_check (length state) ∷ []) r e)

  pub start-short : first_of own ≡ Ok tt → length state < state_width → start_left (number Room) state ≡ start_bytes set th rows cols octave n0 n1 n2 n3 state
  unfolding start_bytes bytes_checks start_left_by first_of unless
  start-short e h = rw (fine_then own (state_check (length state) ∷ []) e, lt-ltb (length state) state_width h)

  pub start_fine : first_of own ≡ Ok tt → state_width ≤ length state → start_left 0 (sets state 0 (opened_bytes set th rows cols octave)) ≡ start_bytes set th rows cols octave n0 n1 n2 n3 state
  unfolding start_bytes bytes_checks start_left_by first_of unless
  start_fine e h = rw (fine_then own (state_check (length state) ∷ []) e, le-ltb (length state) state_width h)

-- ---- a column

module _ (b : List ℕ) (given ring : Four) (out : List ℕ) where
  pub column_short : length b < state_width → column_left (number Past) 0 b ring out ≡ column_bytes b given ring out
  unfolding column_bytes column_left_by value
  column_short h = rw (lt-ltb (length b) state_width h)

  module _ (long : state_width ≤ length b) (fed : Result ℕ Refusal) (s : State) (g : Four) (o : List ℕ) (is : after fed s g o ≡ column_of (state_of b) given ring out) where
    answer-is : fed ≡ (column_of (state_of b) given ring out).answer
    answer-is = ap (λ (a : After). a.answer) is

    pub column_by : (w : Result ℕ Refusal) → fed ≡ w → column_left_by w b g o ≡ column_bytes b given ring out
    unfolding column_bytes
    column_by w e = rw (le-ltb (length b) state_width long, ← answer-is, e) (ap (λ (a : After). column_left_by w b a.ring a.out) is)

    -- a taken column's position is small
    pub position_small : (n : ℕ) → fed ≡ Ok n → word_from b 556 + 1 < 4294967296
    unfolding state_of
    position_small n e = let p = taken_passed (state_of b) given ring out n (sym answer-is ∙ e) in omega (arith, p.to_come, p.cols-most)
