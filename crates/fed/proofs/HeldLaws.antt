-- The ring holds the last five columns, so what is read of it is what the whole levels have. Assumes nothing.
use Prim.Native.Nat.{ℕ, zero, suc, ◌+◌, ◌-◌, ◌*◌, ◌/◌, ◌%◌, ◌≤◌, ◌<◌}
use native.Mathlib.Nat.{mul-le-mul_right, suc-mul, eq-or-lt_of_le, eq-zero-or-pos}
use native.Mathlib.Omega.{arith}
use mathlib.Core.Path.{◌≡◌, refl, ◌∙◌}
use mathlib.Core.Logic.{◌⊎◌, ⊎_elim, inl, inr}
use mathlib.Core.List.{List}
use lib.ListN.{length, get_or}
use lib.Arith.{digits_lt}
use lib.Ieee.{Float, nan}
use borrow.Author.Tests.{eq-eqb, ne_eqb}
use Rattle.grid.specs.Grid.{pixel_at, Stored}
use Rattle.grid.proofs.StoredLaws.{stored_at, stored-before, stored_past}
use Rattle.samples.specs.Level.{Maps, sample_at, samples_of, nine_at, samples_at}
use Rattle.samples.proofs.LevelLaws.{length_nine, nine_place, nine_built}
use Rattle.detect.specs.Due.{pixel_due}
use Rattle.detect.proofs.DueLaws.{pixel_both}
use Rattle.ring.specs.declared.State.{State}
use Rattle.samples.specs.Four.{Four}
use Rattle.ring.specs.Ring.{slot_of, pixel_fed, sample_fed, samples_fed, nine_fed, pixel_spots, column_spots, kept, stored}
use Rattle.ring.specs.Lent.{Roomy}
use Rattle.ring.proofs.RingLaws.{slot-room}
use Rattle.fed.specs.Held.{map_of, Holds, Column, Held, Given}
use Rattle.fed.specs.Order.{column_due}

-- ---- one slice of the ring

slots_apart : (a b rows row : ℕ) → (a ≡ b → ⊥) → row < rows → (a * rows + row < b * rows) ⊎ (b * rows + rows ≤ a * rows + row)
slots_apart a b rows row other h = ⊎_elim (λ less. inl (digits_lt less h)) (λ more. inr (omega (arith, mul-le-mul_right {m = suc b} {n = a} rows more, suc-mul b rows))) cases
  where
    cases : (a < b) ⊎ (b < a)
    cases = ⊎_elim (λ e. ⊎_elim (λ q. absurd (other q)) inl (eq-or-lt_of_le (omega arith))) (λ e. inr (omega arith)) (eq-zero-or-pos (a - b))

module _ (l : List Float) (rows n : ℕ) (ring : List Float) (holds : Holds l rows n ring) (c : List Float) (column : Column l rows n c) where
  -- what is read while the n-th column is given
  pub fed_pixel : (row col : ℕ) → row < rows → col ≤ n → n ≤ col + 4 → pixel_fed ring c rows n row col ≡ pixel_at l rows row col
  unfolding pixel_fed
  fed_pixel row col inside late early =
      ⊎_elim (λ e. rw (eq-eqb col n e, e) (column.same row inside)) (λ less. rw (ne_eqb col n (λ e. omega arith)) (holds col row less (omega arith) inside)) (eq-or-lt_of_le late)

  -- the ring holds one column more when the given one is stored
  pub holds-next : 5 * rows ≤ length ring → Holds l rows (n + 1) (kept rows n ring c)
  holds-next room k row late early inside = ⊎_elim newest older (eq-or-lt_of_le (omega arith))
    where
      put : Stored ring (kept rows n ring c) (slot_of rows n) c
      put = record { floats = refl }

      newest : k ≡ n → get_or (kept rows n ring c) (slot_of rows k + row) nan ≡ pixel_at l rows row k
      newest e = rw e (stored_at put row (rw column.long (omega (arith, slot-room rows n))) (rw column.long inside) ∙ column.same row inside)

      apart : (slot_of rows k + row < slot_of rows n) ⊎ (slot_of rows n + rows ≤ slot_of rows k + row) → get_or (kept rows n ring c) (slot_of rows k + row) nan ≡ get_or ring (slot_of rows k + row) nan
      apart (inl h) = stored-before put (slot_of rows k + row) h
      apart (inr h) = stored_past put (slot_of rows k + row) (rw column.long h)

      older : k < n → get_or (kept rows n ring c) (slot_of rows k + row) nan ≡ pixel_at l rows row k
      older less = apart (slots_apart (k % 5) (n % 5) rows row (λ e. omega arith) inside) ∙ holds k row less (omega arith) inside

  -- a sample read of the ring is the level's
  pub fed_sample : (row col : ℕ) (sigma : Float) → 1 ≤ row → row + 1 < rows → 1 ≤ col → col + 1 ≤ n → n ≤ col + 3
      → sample_fed ring c rows n row col sigma ≡ sample_at l rows row col sigma
  unfolding sample_fed sample_at
  fed_sample row col sigma up down left late early =
      rw (
        fed_pixel row (col - 1) (omega arith) (omega arith) (omega arith),
        fed_pixel row (col + 1) (omega arith) (omega arith) (omega arith),
        fed_pixel (row - 1) col (omega arith) (omega arith) (omega arith),
        fed_pixel (row + 1) col (omega arith) (omega arith) (omega arith),
        fed_pixel row col (omega arith) (omega arith) (omega arith),
      )

-- ---- four slices

module _ (s : State) (l : Four) (ring : Four) (held : Held (map_of s l) s.position ring) (c : Four) (given : Given (map_of s l) s.position c) where
  abbrev m : Maps
  m = map_of s l

  fed_samples : (row col : ℕ) → 1 ≤ row → row + 1 < s.rows → 1 ≤ col → col + 1 ≤ s.position → s.position ≤ col + 3
      → samples_fed ring c s.rows s.position s.set.sigmas row col ≡ samples_at m row col
  unfolding samples_fed samples_of
  fed_samples row col up down left late early =
      rw (
        fed_sample l.l0 s.rows s.position ring.l0 held.l0 c.l0 given.l0 row col _ up down left late early,
        fed_sample l.l1 s.rows s.position ring.l1 held.l1 c.l1 given.l1 row col _ up down left late early,
        fed_sample l.l2 s.rows s.position ring.l2 held.l2 c.l2 given.l2 row col _ up down left late early,
        fed_sample l.l3 s.rows s.position ring.l3 held.l3 c.l3 given.l3 row col _ up down left late early,
      )

  -- all 36 samples of a pixel of the column two before the given one are the whole levels'
  pub fed_nine : (row col : ℕ) → 2 ≤ row → row + 2 < s.rows → 2 ≤ col → col + 2 ≡ s.position → nine_fed s ring c row col ≡ nine_at m row col
  fed_nine row col up down left at =
      nine_built (samples_at m) row col (nine_fed s ring c row col) (length_nine _ row col)
      (λ k h. nine_place _ row col k h ∙ fed_samples (row + k / 3 - 1) (col + k % 3 - 1) (omega arith) (omega arith) (omega arith) (omega arith) (omega arith))

  fed_pixels : (row col : ℕ) → 2 ≤ row → row + 2 < s.rows → 2 ≤ col → col + 2 ≡ s.position → pixel_spots s ring c row col ≡ pixel_due m row col
  unfolding pixel_spots
  fed_pixels row col up down left at = rw (fed_nine row col up down left at, pixel_both m row col)

  -- so it lists what the whole map's does
  pub fed_column : (col n : ℕ) → n ≤ s.rows - 8 → 2 ≤ col → col + 2 ≡ s.position → column_spots s ring c col n ≡ column_due m col n
  unfolding column_spots column_due
  fed_column col zero k left at = refl
  fed_column col (suc n) k left at = rw (fed_column col n (omega arith) left at, fed_pixels (n + 4) col (omega arith) (omega arith) left at)

  -- and the ring holds the given columns too once they are stored
  pub held_next : Roomy s.rows ring → Held m (s.position + 1) (stored s ring c)
  held_next room = record {
    l0 = holds-next l.l0 s.rows s.position ring.l0 held.l0 c.l0 given.l0 room.l0;
    l1 = holds-next l.l1 s.rows s.position ring.l1 held.l1 c.l1 given.l1 room.l1;
    l2 = holds-next l.l2 s.rows s.position ring.l2 held.l2 c.l2 given.l2 room.l2;
    l3 = holds-next l.l3 s.rows s.position ring.l3 held.l3 c.l3 given.l3 room.l3;
  }
