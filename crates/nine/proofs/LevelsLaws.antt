-- The nine places around a pixel of four levels, by offsets. Assumes nothing.
use Prim.Native.Nat.{ℕ, ◌+◌, ◌-◌, ◌*◌, ◌≤◌}
use native.Mathlib.Nat.{add-mul, mul_comm, mul-le-mul_right}
use native.Mathlib.Omega.{arith}
use mathlib.Core.Path.{◌≡◌, sym, ap, ◌∙◌}
use mathlib.Core.List.{List}
use lib.ListN.{length}
use lib.Ieee.{Float}
use Rattle.grid.specs.Grid.{pixel_at}
use Rattle.grid.proofs.GridLaws.{area}
use Rattle.pixel.specs.declared.Frame.{Frame}
use Rattle.samples.specs.Level.{sample_at, samples_of, nine_of, Within, Sized}
use Rattle.samples.specs.Four.{Four, four_of, samples_by}
use Rattle.nine.specs.Nine.{Span, Spans, Beside, three_of, nine_beside}
use Rattle.nine.proofs.NineLaws.{nine_beside_lem}

-- ---- where they lie

module _ {f : Frame} {row col : ℕ} (w : Within 2 f row col) {u : ℕ} (eu : u ≡ (col - 2) * f.rows + (row - 1)) where
  -- five columns lie between u and the end of a level
  level_room : (n : ℕ) → n ≡ f.rows * f.cols → u + 5 * f.rows ≤ n + (row - 1)
  level_room n e =
      omega (arith, e, eu, mul-le-mul_right {m = col - 2 + 5} {n = f.cols} f.rows (omega (arith, w.left, w.right)), add-mul (col - 2) 5 f.rows, mul_comm f.rows f.cols)

  level_span : (n a b c : ℕ) → n ≡ f.rows * f.cols → n ≤ 16777216 → a ≤ u + 4 * f.rows → u ≤ b → b ≤ u + 3 * f.rows → c ≤ u + 4 * f.rows → Span n n a b c 3
  level_span n a b c e most ha low hb hc =
      let room = level_room n e in
      record {
        up = omega (arith, low, eu, w.top);
        down = omega (arith, hb, room, w.bottom);
        before = omega (arith, ha, room, w.bottom);
        behind = omega (arith, hc, room, w.bottom);
        small = omega (arith, ha, hb, hc, room, w.bottom);
      }

  module _ {l0 l1 l2 l3 : List Float} (sized : Sized f (length l0) (length l1) (length l2) (length l3)) where
    level_spans : (a b c : ℕ) → a ≤ u + 4 * f.rows → u ≤ b → b ≤ u + 3 * f.rows → c ≤ u + 4 * f.rows → Spans (four_of l0 l1 l2 l3) (four_of l0 l1 l2 l3) a b c 3
    level_spans a b c ha low hb hc =
        let most = area sized.rows-most sized.cols-most in
        record {
          l0 = level_span (length l0) a b c sized.long0 (omega (arith, most, sized.long0)) ha low hb hc;
          l1 = level_span (length l1) a b c sized.long1 (omega (arith, most, sized.long1)) ha low hb hc;
          l2 = level_span (length l2) a b c sized.long2 (omega (arith, most, sized.long2)) ha low hb hc;
          l3 = level_span (length l3) a b c sized.long3 (omega (arith, most, sized.long3)) ha low hb hc;
        }

    pub levels_beside : (x y z t : ℕ) → x ≡ u + f.rows → y ≡ x + f.rows → z ≡ y + f.rows → t ≡ z + f.rows → Beside (four_of l0 l1 l2 l3) (four_of l0 l1 l2 l3) u x y z t 0
    levels_beside x y z t ex ey ez et = record {
      before = level_spans u x y (omega arith) (omega arith) (omega arith) (omega arith);
      own = level_spans x y z (omega arith) (omega arith) (omega arith) (omega arith);
      after = level_spans y z t (omega arith) (omega arith) (omega arith) (omega arith);
    }

-- ---- what is read there

module _ (l0 l1 l2 l3 : List Float) (rows : ℕ) (g : List Float) where
  abbrev four : Four
  four = four_of l0 l1 l2 l3

  -- the samples at a pixel, by its place and those of the pixels beside it
  samples_there : (row col left mid right : ℕ) → 1 ≤ row → left ≡ (col - 1) * rows + row → mid ≡ col * rows + row → right ≡ (col + 1) * rows + row
      → samples_by four four left mid right g ≡ samples_of l0 l1 l2 l3 rows g row col
  unfolding samples_by samples_of sample_at pixel_at
  samples_there row col left mid right up el em er =
      let above : col * rows + (row - 1) ≡ col * rows + row - 1 = omega arith in
      let below : col * rows + (row + 1) ≡ col * rows + row + 1 = omega arith in
      rw (el, em, er, above, below)

  module _ (b col u x y z t : ℕ) (up : 1 ≤ b) (left : 2 ≤ col) (eu : u ≡ (col - 2) * rows + b) (ex : x ≡ u + rows) (ey : y ≡ x + rows) (ez : z ≡ y + rows) (et : t ≡ z + rows) where
    -- the place of a column k after the first, q rows on
    place-on : (k c q p : ℕ) → p ≡ u + k * rows → c ≡ col - 2 + k → p + q ≡ c * rows + (b + q)
    place-on k c q p ep ec = omega (arith, ep, eu, ap (λ (m : ℕ). m * rows) ec, add-mul (col - 2) k rows)

    abbrev three : ℕ → ℕ → List Float
    three = three_of four four u x y z t g

    first-there : (q : ℕ) → three 0 q ≡ samples_of l0 l1 l2 l3 rows g (b + q) (col + 0 - 1)
    unfolding three_of
    first-there q =
        samples_there (b + q) (col + 0 - 1) (u + q) (x + q) (y + q) (omega arith)
        (place-on 0 (col + 0 - 1 - 1) q u (omega arith) (omega arith)) (place-on 1 (col + 0 - 1) q x (omega arith) (omega arith)) (place-on 2 (col + 0 - 1 + 1) q y (omega arith) (omega arith))

    second-there : (q : ℕ) → three 1 q ≡ samples_of l0 l1 l2 l3 rows g (b + q) (col + 1 - 1)
    unfolding three_of
    second-there q =
        samples_there (b + q) (col + 1 - 1) (x + q) (y + q) (z + q) (omega arith)
        (place-on 1 (col + 1 - 1 - 1) q x (omega arith) (omega arith)) (place-on 2 (col + 1 - 1) q y (omega arith) (omega arith)) (place-on 3 (col + 1 - 1 + 1) q z (omega arith) (omega arith))

    third-there : (q : ℕ) → three 2 q ≡ samples_of l0 l1 l2 l3 rows g (b + q) (col + 2 - 1)
    unfolding three_of
    third-there q =
        samples_there (b + q) (col + 2 - 1) (y + q) (z + q) (t + q) (omega arith)
        (place-on 2 (col + 2 - 1 - 1) q y (omega arith) (omega arith)) (place-on 3 (col + 2 - 1) q z (omega arith) (omega arith)) (place-on 4 (col + 2 - 1 + 1) q t (omega arith) (omega arith))

    pub nine_there : (row : ℕ) → row ≡ b + 0 + 1 → nine_beside three 0 ≡ nine_of (samples_of l0 l1 l2 l3 rows g) row col
    nine_there row e = sym (ap (λ (r : ℕ). nine_of (samples_of l0 l1 l2 l3 rows g) r col) e ∙ nine_beside_lem (samples_of l0 l1 l2 l3 rows g) three b col first-there second-there third-there 0)
