-- What the checks of levels leave to know, what a call leaves in its buffers, and its refusals. Assumes nothing.
use Rattle.std.specs.Prelude.{Result, Ok, Err, ⊤}
use Prim.Native.Nat.{ℕ, ◌+◌, ◌*◌, ◌≤◌, ◌<◌}
use native.Mathlib.Nat.{mul_comm}
use native.Mathlib.Omega.{arith}
use mathlib.Core.Path.{◌≡◌, refl, ◌∙◌}
use mathlib.Core.Bool.{true}
use mathlib.Core.List.{List}
use lib.ListN.{length, get_or}
use lib.Dec.{eqb}
use lib.Ieee.{Float, nan}
use borrow.Author.Tests.{ltb-false, eqb-true, not-false}
use Rattle.float.proofs.Bools.{neither}
use Rattle.tables.specs.declared.Set.{Set}
use Rattle.tables.specs.declared.Refusal.{Refusal}
use Rattle.tables.specs.Set.{good}
use Rattle.tables.specs.Refusal.{Check, first_of, said_at, First}
use Rattle.tables.proofs.RefusalLaws as order
use Rattle.tables.proofs.RefusalLaws.{unless-fine, sides_most}
use Rattle.grid.specs.Grid.{pixel_at, Stored}
use Rattle.grid.proofs.GridLaws.{before_last}
use Rattle.grid.proofs.StoredLaws.{stored-start, start-length, start_at, start-past, start_exact}
use Rattle.kernels.specs.declared.Kernel.{Kernel}
use Rattle.kernels.specs.Kernel.{kernels_of}
use Rattle.blur.specs.Blur.{level_of, level_at}
use Rattle.blur.specs.Passes.{Plane}
use Rattle.blur.proofs.LevelLaws.{length-level, level_pixel}
use Rattle.levels.specs.Levels.{levels_checks, Outcome, outcome, placed, made, levels_of}

-- what no check refuses
pub record Passed (n n0 n1 n2 n3 rows cols octave : ℕ) (s : Set) : Type 0 where
  pub first : Plane n n0 n1 rows cols
  pub last : Plane n n2 n3 rows cols
  pub octave-most : octave ≤ 5
  pub good-set : good s ≡ true

pub checks_passed : (n n0 n1 n2 n3 rows cols octave : ℕ) (s : Set) → first_of (levels_checks n n0 n1 n2 n3 rows cols octave s) ≡ Ok tt → Passed n n0 n1 n2 n3 rows cols octave s
unfolding levels_checks first_of
checks_passed n n0 n1 n2 n3 rows cols octave s h =
    let sides = unless-fine _ _ _ h in
    let level = unless-fine _ _ _ sides.1 in
    let high = unless-fine _ _ _ level.1 in
    let bad = unless-fine _ _ _ high.1 in
    let room = unless-fine _ _ _ bad.1 in
    let most = sides_most rows cols sides.0 in
    let long : n ≡ rows * cols = eqb-true _ _ (not-false (eqb n (rows * cols)) level.0) in
    let a = neither _ _ room.0 in
    let b = neither _ _ a.1 in
    let c = neither _ _ b.1 in
    record {
      first = record { rows-most = most.0; cols-most = most.1; long = long; room_a = ltb-false _ _ a.0; room_b = ltb-false _ _ b.0 };
      last = record { rows-most = most.0; cols-most = most.1; long = long; room_a = ltb-false _ _ c.0; room_b = ltb-false _ _ c.1 };
      octave-most = ltb-false _ _ high.0;
      good-set = not-false (good s) bad.0;
    }

-- ---- a level at the start of a buffer

module _ (s : Set) (rows cols octave : ℕ) (raw : List Float) (n : ℕ) (out : List Float) where
  abbrev kernel : Kernel
  kernel = kernels_of octave s.sigmas n

  -- a level stored at a buffer's start is what a call leaves there
  pub placed-is : {out' : List Float} (k : Kernel) → k ≡ kernel → rows * cols ≤ length out → Stored out out' 0 (level_of raw rows cols k) → out' ≡ placed s rows cols octave raw n out
  unfolding placed
  placed-is k e room h = rw (← e) (stored-start h (omega (arith, length-level raw rows cols k, mul_comm rows cols)))

  -- its pixels are the sums of the two passes
  pub placed_pixel : (row col : ℕ) → row < rows → col < cols → pixel_at (placed s rows cols octave raw n out) rows row col ≡ level_at raw rows cols kernel row col
  unfolding placed pixel_at
  placed_pixel row col hr hc =
      let own = level_pixel raw rows cols kernel row col hr hc in
      start_at (level_of raw rows cols kernel) out (col * rows + row) (omega (arith, length-level raw rows cols kernel, before_last rows cols col row hc hr)) ∙ own

  -- what lies past them is kept
  pub placed_past : (i : ℕ) → rows * cols ≤ i → get_or (placed s rows cols octave raw n out) i nan ≡ get_or out i nan
  unfolding placed
  placed_past i h = start-past (level_of raw rows cols kernel) out i (omega (arith, length-level raw rows cols kernel, mul_comm rows cols))

  -- and a buffer with room for them keeps its length
  pub placed-length : rows * cols ≤ length out → length (placed s rows cols octave raw n out) ≡ length out
  unfolding placed
  placed-length h = start-length (level_of raw rows cols kernel) out (omega (arith, length-level raw rows cols kernel, mul_comm rows cols))

  -- a buffer as long as the map holds the level and nothing else
  pub placed_exact : length out ≡ rows * cols → placed s rows cols octave raw n out ≡ level_of raw rows cols kernel
  unfolding placed
  placed_exact h = start_exact (level_of raw rows cols kernel) out (omega (arith, h, length-level raw rows cols kernel, mul_comm rows cols))

-- ---- over the outcome of the checks

module _ (s : Set) (rows cols octave : ℕ) (raw l0 l1 l2 l3 : List Float) where
  abbrev left : Result ⊤ Refusal → Outcome
  left w = made w s rows cols octave raw l0 l1 l2 l3

  answer-refused : (w : Result ⊤ Refusal) (r : Refusal) → (left w).answer ≡ Err r → w ≡ Err r
  unfolding made
  answer-refused (Err q) r e = cc
  answer-refused (Ok _) r e = cc

  answer-made : (w : Result ⊤ Refusal) → (left w).answer ≡ Ok tt → w ≡ Ok tt
  unfolding made
  answer-made (Err q) e = cc
  answer-made (Ok _) e = refl

  kept : (w : Result ⊤ Refusal) (r : Refusal) → (left w).answer ≡ Err r → left w ≡ outcome (Err r) l0 l1 l2 l3
  unfolding made
  kept (Err q) r e = let same : q ≡ r = cc in rw same
  kept (Ok _) r e = cc

  all_made : (w : Result ⊤ Refusal) → (left w).answer ≡ Ok tt
      → left w ≡ outcome (Ok tt) (placed s rows cols octave raw 0 l0) (placed s rows cols octave raw 1 l1) (placed s rows cols octave raw 2 l2) (placed s rows cols octave raw 3 l3)
  unfolding made
  all_made (Err q) e = cc
  all_made (Ok _) e = refl

-- ---- a call

module _ (s : Set) (rows cols octave : ℕ) (raw l0 l1 l2 l3 : List Float) where
  abbrev checks : List Check
  checks = levels_checks (length raw) (length l0) (length l1) (length l2) (length l3) rows cols octave s

  abbrev after : Outcome
  after = levels_of s rows cols octave raw l0 l1 l2 l3

  -- where the levels are made, each buffer has its level at its start
  pub made-is : after.answer ≡ Ok tt
      → after ≡ outcome (Ok tt) (placed s rows cols octave raw 0 l0) (placed s rows cols octave raw 1 l1) (placed s rows cols octave raw 2 l2) (placed s rows cols octave raw 3 l3)
  unfolding levels_of
  made-is e = all_made s rows cols octave raw l0 l1 l2 l3 _ e

  -- a refusal that is answered is the first that holds, in the order of the checks: 1, 2, 3, 4, 6
  pub refused-first : (r : Refusal) → after.answer ≡ Err r → First checks r
  unfolding levels_of
  refused-first r e = order.first-refused checks r (answer-refused s rows cols octave raw l0 l1 l2 l3 _ r e)

  -- and the first that holds is answered
  pub first_answered : (r : Refusal) → First checks r → after.answer ≡ Err r
  unfolding levels_of made
  first_answered r f = rw (order.refused-first checks r f)

  -- a refusal writes nothing
  pub refused_keeps : (r : Refusal) → after.answer ≡ Err r → after ≡ outcome (Err r) l0 l1 l2 l3
  unfolding levels_of
  refused_keeps r e = kept s rows cols octave raw l0 l1 l2 l3 _ r e

  -- a call that makes the levels has no check that holds
  pub made_none : after.answer ≡ Ok tt → (k : ℕ) → said_at checks k ≡ Ok tt
  unfolding levels_of
  made_none e = order.first_fine checks (answer-made s rows cols octave raw l0 l1 l2 l3 _ e)

  -- and a call with no check that holds makes them
  pub none_made : ((k : ℕ) → said_at checks k ≡ Ok tt) → after.answer ≡ Ok tt
  unfolding levels_of made
  none_made h = rw (order.fine-first checks h)
