-- The judged column by blocks: what a block marks, and the marks of one block more. Assumes nothing.
use Prim.Native.Nat.{ℕ, ◌+◌, ◌-◌, ◌≤◌, ◌<◌}
use native.Mathlib.Omega.{arith}
use mathlib.Core.Path.{◌≡◌, sym, ap, ◌∙◌, subst}
use mathlib.Core.Bool.{Bool, true, false, not}
use mathlib.Core.List.{List, []}
use lib.Dec.{T, ltb, ltb→lt, nltb→le}
use lib.ListN.{length, get_or}
use lib.Ieee.{Float}
use borrow.Author.Count.{below_none}
use Rattle.pixel.specs.Listed.{both_listed}
use Rattle.pixel.proofs.ListedLaws.{both_nothing}
use Rattle.samples.specs.Level.{nine_of}
use Rattle.samples.specs.Four.{Four}
use Rattle.nine.specs.Nine.{nine_beside, three_of}
use Rattle.sides.specs.Beside.{Left}
use Rattle.ring.specs.declared.State.{State}
use Rattle.ring.specs.Ring.{frame_of, slot_of, samples_fed, pixel_spots}
use Rattle.ring.specs.Lent.{height_of, Ruled}
use Rattle.rule.specs.Rule.{RuledPart, Copied}
use Rattle.ring.proofs.RingLaws.{nine_fed_lem}
use Rattle.ring.proofs.SpotsLaws.{height-some}

-- ---- what a block marks

module _ (s : State) (ring given : Four) (j : ℕ) {n u x y z : ℕ} (late : 6 ≤ s.position) (eu : u ≡ slot_of s.rows (s.position + 1) + (j + 3))
    (ex : x ≡ slot_of s.rows (s.position + 2) + (j + 3)) (ey : y ≡ slot_of s.rows (s.position + 3) + (j + 3)) (ez : z ≡ slot_of s.rows (s.position + 4) + (j + 3)) where
  -- a pixel that is not left of its three columns lists nothing
  pub part_left : {keep : List ℕ} → Left s.set s.thresholds (three_of ring given u x y z (j + 3) s.set.sigmas) n keep → RuledPart s ring given j n keep
  unfolding pixel_spots
  part_left left = record {
    long = left.long;
    ruled = λ i h e.
        subst (λ (nine : List (List Float)). both_listed s.set s.thresholds (frame_of s) nine (j + i + 4) (s.position - 2) ≡ [])
        (sym (ap (λ (row : ℕ). nine_of (samples_fed ring given s.rows s.position s.set.sigmas) row (s.position - 2)) (omega arith) ∙ nine_fed_lem ring given s.rows s.position s.set.sigmas (j + 3) late (omega arith) eu ex ey ez i))
        (both_nothing s.set s.thresholds (frame_of s) (nine_beside (three_of ring given u x y z (j + 3) s.set.sigmas) i) (j + i + 4) (s.position - 2) (left.ruled i h e (frame_of s) (j + i + 4) (s.position - 2)));
  }

-- ---- block by block

-- a block that begins among the judged pixels has room on all sides
pub block_room : (s : State) (n j m : ℕ) → n ≡ height_of s → j < n → m ≤ n - j → (6 ≤ s.position) × (j + m + 8 ≤ s.rows)
block_room s n j m is less few =
    let room = height-some s (n - 1) (subst (λ (k : ℕ). n - 1 < k) is (omega arith)) in
    (room.0, omega (arith, room.2))

-- the marks of those of n pixels that come before the j-th
pub record RuledTo (s : State) (ring given : Four) (n j : ℕ) (marks : List ℕ) : Type 0 where
  pub long : length marks ≡ 4096
  pub ruled : (i : ℕ) → i < j → i < n → get_or marks i 0 ≡ 0 → pixel_spots s ring given (i + 4) (s.position - 2) ≡ []

-- none yet
pub ruled-none : (s : State) (ring given : Four) (n : ℕ) {marks : List ℕ} → length marks ≡ 4096 → RuledTo s ring given n 0 marks
ruled-none s ring given n long = record { long = long; ruled = below_none _ }

-- a block more
pub ruled-more : {s : State} {ring given : Four} {n j m : ℕ} {keep marks marks' : List ℕ} → RuledTo s ring given n j marks → ((i : ℕ) → i < n - j → i < 254 → i < m)
    → RuledPart s ring given j m keep → Copied j m keep marks marks' → RuledTo s ring given n (j + 254) marks'
ruled-more {s} {ring} {given} {n} {j} {m} {keep} {marks} {marks'} old reach part copied = record {
  long = copied.long ∙ old.long;
  ruled = λ i h less e. go i h less e (ltb i j) (ltb→lt i j) (nltb→le i j);
}
  where
    go : (i : ℕ) → i < j + 254 → i < n → get_or marks' i 0 ≡ 0 → (b : Bool) → (T b → i < j) → (T (not b) → j ≤ i) → pixel_spots s ring given (i + 4) (s.position - 2) ≡ []
    go i h less e true before after = old.ruled i (before tt) less (sym (copied.same i (before tt)) ∙ e)
    go i h less e false before after =
        let low = after tt in
        let place : j + (i - j) ≡ i = omega arith in
        let inside : i - j < m = reach (i - j) (omega arith) (omega arith) in
        subst (λ (k : ℕ). pixel_spots s ring given (k + 4) (s.position - 2) ≡ []) place
        (part.ruled (i - j) inside (sym (copied.here (i - j) inside) ∙ ap (λ (k : ℕ). get_or marks' k 0) place ∙ e))

-- all of them
pub ruled-all : {s : State} {ring given : Four} {n j : ℕ} {marks : List ℕ} → n ≤ j → RuledTo s ring given n j marks → Ruled s ring given n marks
ruled-all past to = record { long = to.long; ruled = λ i h. to.ruled i (omega arith) h }
