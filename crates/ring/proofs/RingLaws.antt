-- Where the slots of the ring lie, and what is read of them while a column is given. Assumes nothing.
use Prim.Native.Nat.{ℕ, suc, ◌+◌, ◌-◌, ◌*◌, ◌%◌, ◌≤◌, ◌<◌}
use native.Mathlib.Nat.{add_assoc, mul-le-mul_right, suc-mul}
use native.Mathlib.Numerals.{add-one}
use native.Mathlib.Omega.{arith}
use mathlib.Core.Path.{◌≡◌, refl, ap, ◌∙◌}
use mathlib.Core.List.{List, [], ◌∷◌}
use lib.Arith.{digits_lt}
use lib.ListN.{length, get_or, set, take}
use lib.Seq.{sets, length-take-le, take-suc}
use lib.Ieee.{Float}
use borrow.Author.Tests.{eq-eqb, ne_eqb}
use Rattle.words.proofs.Stores.{sets-append}
use Rattle.fit.specs.Cubic.{◌at◌}
use Rattle.samples.specs.Level.{stencil_of, nine_of}
use Rattle.samples.specs.Four.{Four, samples_by}
use Rattle.nine.specs.Nine.{Span, Spans, Beside, three_of, nine_beside}
use Rattle.nine.proofs.NineLaws.{nine_beside_lem}
use Rattle.ring.specs.Ring.{slot_of, pixel_fed, sample_fed, samples_fed}
use Rattle.ring.specs.Lent.{Lent}

-- ---- slots

-- a place of a slot lies in a ring of five
pub slot-inside : (rows col row : ℕ) → row < rows → slot_of rows col + row < 5 * rows
slot-inside rows col row h = digits_lt (omega arith) h

-- a slot has room for a column
pub slot-room : (rows n : ℕ) → slot_of rows n + rows ≤ 5 * rows
slot-room rows n = omega (arith, mul-le-mul_right {m = suc (n % 5)} {n = 5} rows (omega arith), suc-mul (n % 5) rows)

-- columns five apart share a slot
pub slot_same : (rows row a b : ℕ) → a % 5 ≡ b % 5 → slot_of rows a + row ≡ slot_of rows b + row
slot_same rows row a b e = ap (λ (q : ℕ). q * rows + row) e

-- one store more
pub stored_more : (l c : List Float) (from i : ℕ) (d : Float) → i < length c → set (sets l from (take i c)) (from + i) (get_or c i d) ≡ sets l from (take (i + 1) c)
stored_more l c from i d h =
    let n : length (take i c) ≡ i = length-take-le i c (omega arith) in
    rw (add-one, take-suc c i d h, sets-append (take i c) (get_or c i d ∷ []) l from, n)

-- ---- what is read

module _ (ring given : List Float) (rows n : ℕ) where
  of_ring : (row col : ℕ) → (col ≡ n → ⊥) → pixel_fed ring given rows n row col ≡ ring at (slot_of rows col + row)
  unfolding pixel_fed
  of_ring row col other = rw (ne_eqb col n other)

  of_given : (row : ℕ) → pixel_fed ring given rows n row n ≡ given at row
  unfolding pixel_fed
  of_given row = rw (eq-eqb n n refl)

  -- a sample of a column before the last one stored
  sample_ring : (row col : ℕ) (sigma : Float) → 1 ≤ row → 1 ≤ col → col + 1 < n → let mid = slot_of rows col + row in
      sample_fed ring given rows n row col sigma
      ≡ stencil_of (ring at (slot_of rows (col - 1) + row)) (ring at (slot_of rows (col + 1) + row)) (ring at (mid - 1)) (ring at (mid + 1)) (ring at mid) sigma
  unfolding sample_fed
  sample_ring row col sigma up left late =
      let above : slot_of rows col + (row - 1) ≡ slot_of rows col + row - 1 = omega arith in
      let below : slot_of rows col + (row + 1) ≡ slot_of rows col + row + 1 = omega arith in
      rw (
        of_ring row (col - 1) (λ e. omega arith),
        of_ring row (col + 1) (λ e. omega arith),
        of_ring (row - 1) col (λ e. omega arith),
        of_ring (row + 1) col (λ e. omega arith),
        of_ring row col (λ e. omega arith),
        above,
        below,
      )

  -- a sample of the last one stored
  sample_last : (row col : ℕ) (sigma : Float) → 1 ≤ row → 1 ≤ col → col + 1 ≡ n → let mid = slot_of rows col + row in
      sample_fed ring given rows n row col sigma ≡ stencil_of (ring at (slot_of rows (col - 1) + row)) (given at row) (ring at (mid - 1)) (ring at (mid + 1)) (ring at mid) sigma
  unfolding sample_fed
  sample_last row col sigma up left late =
      let above : slot_of rows col + (row - 1) ≡ slot_of rows col + row - 1 = omega arith in
      let below : slot_of rows col + (row + 1) ≡ slot_of rows col + row + 1 = omega arith in
      rw (
        of_ring row (col - 1) (λ e. omega arith),
        late,
        of_given row,
        of_ring (row - 1) col (λ e. omega arith),
        of_ring (row + 1) col (λ e. omega arith),
        of_ring row col (λ e. omega arith),
        above,
        below,
      )

module _ (ring given : Four) (rows n : ℕ) (g : List Float) (row col : ℕ) (up : 1 ≤ row) (left : 1 ≤ col) where
  -- the samples of a column before the last one stored, by their places in the ring
  pub samples_ring : (x y z : ℕ) → x ≡ slot_of rows (col - 1) + row → y ≡ slot_of rows col + row → z ≡ slot_of rows (col + 1) + row → col + 1 < n → samples_by ring ring x y z g ≡ samples_fed ring given rows n g row col
  unfolding samples_by samples_fed
  samples_ring x y z ex ey ez late =
      rw (
        ex,
        ey,
        ez,
        sample_ring ring.l0 given.l0 rows n row col (g at 0) up left late,
        sample_ring ring.l1 given.l1 rows n row col (g at 1) up left late,
        sample_ring ring.l2 given.l2 rows n row col (g at 2) up left late,
        sample_ring ring.l3 given.l3 rows n row col (g at 3) up left late,
      )

  -- those of the last one, with the column given after it
  pub samples_last : (x y : ℕ) → x ≡ slot_of rows (col - 1) + row → y ≡ slot_of rows col + row → col + 1 ≡ n → samples_by ring given x y row g ≡ samples_fed ring given rows n g row col
  unfolding samples_by samples_fed
  samples_last x y ex ey late =
      rw (
        ex,
        ey,
        sample_last ring.l0 given.l0 rows n row col (g at 0) up left late,
        sample_last ring.l1 given.l1 rows n row col (g at 1) up left late,
        sample_last ring.l2 given.l2 rows n row col (g at 2) up left late,
        sample_last ring.l3 given.l3 rows n row col (g at 3) up left late,
      )

-- ---- the ring by offsets

-- a place of a slot: the row's, in a ring of five
abbrev In : ℕ → ℕ → ℕ → Type 0
In rows row x = (row ≤ x) × (x + rows ≤ 5 * rows + row)

span_more : {n m n' m' left mid right c : ℕ} → n ≤ n' → m ≤ m' → Span n m left mid right c → Span n' m' left mid right c
span_more h k s = record { up = s.up; down = omega (arith, s.down); before = omega (arith, s.before); behind = omega (arith, s.behind); small = s.small }

module _ {rows : ℕ} {ring given : Four} (lent : Lent rows ring given) {left mid right c : ℕ} where
  spans_ring : Span (5 * rows) (5 * rows) left mid right c → Spans ring ring left mid right c
  spans_ring s = record {
    l0 = span_more lent.roomy.l0 lent.roomy.l0 s;
    l1 = span_more lent.roomy.l1 lent.roomy.l1 s;
    l2 = span_more lent.roomy.l2 lent.roomy.l2 s;
    l3 = span_more lent.roomy.l3 lent.roomy.l3 s;
  }

  spans_given : Span (5 * rows) rows left mid right c → Spans ring given left mid right c
  spans_given s = record {
    l0 = span_more lent.roomy.l0 (omega (arith, lent.long.l0)) s;
    l1 = span_more lent.roomy.l1 (omega (arith, lent.long.l1)) s;
    l2 = span_more lent.roomy.l2 (omega (arith, lent.long.l2)) s;
    l3 = span_more lent.roomy.l3 (omega (arith, lent.long.l3)) s;
  }

-- three slots side by side, and two with the column given, from the row b on
slots_span : (rows b n u x y : ℕ) → rows ≤ 4096 → 1 ≤ b → b + n + 3 < rows → In rows b u → In rows b x → In rows b y → Span (5 * rows) (5 * rows) u x y (n + 3)
slots_span rows b n u x y most up room hu hx hy =
    record { up = omega (arith, hx.0); down = omega (arith, hx.1); before = omega (arith, hu.1); behind = omega (arith, hy.1); small = omega (arith, hu.1, hx.1, hy.1) }

given_span : (rows b n y z : ℕ) → rows ≤ 4096 → 1 ≤ b → b + n + 3 < rows → In rows b y → In rows b z → Span (5 * rows) rows y z b (n + 3)
given_span rows b n y z most up room hy hz =
    record { up = omega (arith, hz.0); down = omega (arith, hz.1); before = omega (arith, hy.1); behind = omega arith; small = omega (arith, hy.1, hz.1) }

-- all that is read beside n pixels, from the row b on, lies where it should
pub ring_beside : {rows : ℕ} {ring given : Four} (b n : ℕ) {u x y z : ℕ} → Lent rows ring given → 1 ≤ b → b + n + 3 < rows → In rows b u → In rows b x → In rows b y → In rows b z
    → Beside ring given u x y z b n
ring_beside {rows} b n {u} {x} {y} {z} lent up room hu hx hy hz = record {
  before = spans_ring lent (slots_span rows b n u x y lent.rows-most up room hu hx hy);
  own = spans_ring lent (slots_span rows b n x y z lent.rows-most up room hx hy hz);
  after = spans_given lent (given_span rows b n y z lent.rows-most up room hy hz);
}

-- a place of a slot, q rows on, by a column five apart
place-on : (rows b q c d : ℕ) {u : ℕ} → c % 5 ≡ d % 5 → u ≡ slot_of rows c + b → u + q ≡ slot_of rows d + (b + q)
place-on rows b q c d same is = ap (λ (m : ℕ). m + q) is ∙ add_assoc (slot_of rows c) b q ∙ slot_same rows (b + q) c d same

module _ (ring given : Four) (rows n : ℕ) (g : List Float) (b : ℕ) {u x y z : ℕ} (late : 6 ≤ n) (up : 1 ≤ b) (eu : u ≡ slot_of rows (n + 1) + b) (ex : x ≡ slot_of rows (n + 2) + b)
    (ey : y ≡ slot_of rows (n + 3) + b) (ez : z ≡ slot_of rows (n + 4) + b) where
  abbrev three : ℕ → ℕ → List Float
  three = three_of ring given u x y z b g

  -- the samples of the three columns
  first_fed : (q : ℕ) → three 0 q ≡ samples_fed ring given rows n g (b + q) (n - 2 + 0 - 1)
  unfolding three_of
  first_fed q =
      samples_ring ring given rows n g (b + q) (n - 2 + 0 - 1) (omega arith) (omega arith) (u + q) (x + q) (y + q)
      (place-on rows b q (n + 1) (n - 2 + 0 - 1 - 1) (omega arith) eu) (place-on rows b q (n + 2) (n - 2 + 0 - 1) (omega arith) ex) (place-on rows b q (n + 3) (n - 2 + 0 - 1 + 1) (omega arith) ey) (omega arith)

  second_fed : (q : ℕ) → three 1 q ≡ samples_fed ring given rows n g (b + q) (n - 2 + 1 - 1)
  unfolding three_of
  second_fed q =
      samples_ring ring given rows n g (b + q) (n - 2 + 1 - 1) (omega arith) (omega arith) (x + q) (y + q) (z + q)
      (place-on rows b q (n + 2) (n - 2 + 1 - 1 - 1) (omega arith) ex) (place-on rows b q (n + 3) (n - 2 + 1 - 1) (omega arith) ey) (place-on rows b q (n + 4) (n - 2 + 1 - 1 + 1) (omega arith) ez) (omega arith)

  third_fed : (q : ℕ) → three 2 q ≡ samples_fed ring given rows n g (b + q) (n - 2 + 2 - 1)
  unfolding three_of
  third_fed q =
      samples_last ring given rows n g (b + q) (n - 2 + 2 - 1) (omega arith) (omega arith) (y + q) (z + q)
      (place-on rows b q (n + 3) (n - 2 + 2 - 1 - 1) (omega arith) ey) (place-on rows b q (n + 4) (n - 2 + 2 - 1) (omega arith) ez) (omega arith)

  -- those at the nine places around the pixel i + 1 rows on
  pub nine_fed_lem : (i : ℕ) → nine_of (samples_fed ring given rows n g) (b + i + 1) (n - 2) ≡ nine_beside three i
  nine_fed_lem = nine_beside_lem (samples_fed ring given rows n g) three b (n - 2) first_fed second_fed third_fed
