-- Laws of the halved level: its sides, its length, where its pixels lie, and what the checks leave to know. Assumes nothing.
use Rattle.std.specs.Prelude.{Ok}
use Prim.Native.Nat.{ℕ, suc, ◌+◌, ◌*◌, ◌/◌, ◌≤◌, ◌<◌}
use native.Mathlib.Nat.{suc-mul, add-mul, mul_comm, mul-le-mul_right}
use native.Mathlib.Omega.{arith}
use mathlib.Core.Bool.{Bool, true, false, cond, ◌||◌}
use mathlib.Core.Path.{◌≡◌, refl, ap, ◌∙◌}
use mathlib.Core.List.{List}
use lib.ListN.{length}
use lib.Dec.{ltb, eqb}
use lib.Ieee.{Float}
use borrow.Author.Tests.{ltb-false, lt-ltb, le-ltb, eqb-true, not-false}
use Rattle.tables.specs.Refusal.{first_of}
use Rattle.tables.proofs.RefusalLaws.{unless-fine, sides_most}
use Rattle.grid.specs.Grid.{pixel_at, columns_of, Stored}
use Rattle.grid.proofs.GridLaws.{before_last, length-columns, columns_at, area}
use Rattle.grid.proofs.StoredLaws.{stored-start}
use Rattle.pyramid.specs.Pyramid.{half_of, taken_of, halved_of, needed, Halves, downsample_checks, outcome, downsampled}

-- ---- half a side

chosen_twice : (b : Bool) (side : ℕ) → 2 * cond b 0 (side / 2) ≤ side
chosen_twice true side = omega arith
chosen_twice false side = omega arith

-- twice the half is no more than the side
pub half_twice : (side other : ℕ) → 2 * half_of side other ≤ side
unfolding half_of
half_twice side other = chosen_twice (ltb side 2 || ltb other 2) side

or-true : (b : Bool) → (b || true) ≡ true
or-true true = refl
or-true false = refl

-- sides of 2 or more are halved, rounded down
pub half_of_lem : (side other : ℕ) → 2 ≤ side → 2 ≤ other → half_of side other ≡ side / 2
unfolding half_of
half_of_lem side other h k = rw (le-ltb side 2 h, le-ltb other 2 k)

-- a side under 2 gives 0, whichever it is
pub half_none : (side other : ℕ) → side < 2 → (half_of side other ≡ 0) × (half_of other side ≡ 0)
unfolding half_of
half_none side other h = (rw (lt-ltb side 2 h), rw (lt-ltb side 2 h, or-true (ltb other 2)))

-- ---- where the pixels lie

-- pixel (r, c) of the halved level is the level's (2r, 2c)
pub halved_pixel : (rows cols : ℕ) (l : List Float) (r c : ℕ) → r < rows / 2 → c < cols / 2
    → pixel_at (halved_of rows cols l) (rows / 2) r c ≡ pixel_at l rows (2 * r) (2 * c)
unfolding halved_of pixel_at
halved_pixel rows cols l r c h k =
    rw (half_of_lem rows cols (omega arith) (omega arith), half_of_lem cols rows (omega arith) (omega arith)) (columns_at (taken_of l rows) (rows / 2) (cols / 2) c r k h)

-- it lies before the halved level's end
pub pixel_before : (rows cols r c : ℕ) → r < rows / 2 → c < cols / 2 → c * (rows / 2) + r < needed rows cols
unfolding needed
pixel_before rows cols r c h k =
    rw (half_of_lem rows cols (omega arith) (omega arith), half_of_lem cols rows (omega arith) (omega arith))
    (omega (arith, before_last (rows / 2) (cols / 2) c r k h, mul_comm (rows / 2) (cols / 2)))

pub length_halved : (rows cols : ℕ) (l : List Float) → length (halved_of rows cols l) ≡ needed rows cols
unfolding halved_of needed
length_halved rows cols l = length-columns (taken_of l rows) (half_of rows cols) (half_of cols rows) ∙ mul_comm (half_of cols rows) (half_of rows cols)

-- ---- what the checks leave to know

-- what no check refuses
pub record Passed (n room rows cols : ℕ) : Type 0 where
  pub rows-most : rows ≤ 4096
  pub cols-most : cols ≤ 4096
  pub long : n ≡ rows * cols
  pub roomy : needed rows cols ≤ room

pub checks_passed : (n room rows cols : ℕ) → first_of (downsample_checks n room rows cols) ≡ Ok tt → Passed n room rows cols
unfolding downsample_checks first_of
checks_passed n room rows cols h =
    let sides = unless-fine _ _ _ h in
    let level = unless-fine _ _ _ sides.1 in
    let buffer = unless-fine _ _ _ level.1 in
    let most = sides_most rows cols sides.0 in
    record {
      rows-most = most.0;
      cols-most = most.1;
      long = eqb-true _ _ (not-false (eqb n (rows * cols)) level.0);
      roomy = ltb-false _ _ buffer.0;
    }

pub passed_halves : {n room rows cols : ℕ} → Passed n room rows cols → Halves n room rows (half_of rows cols) (half_of cols rows)
unfolding needed
passed_halves {n} {room} {rows} {cols} p = record {
  tall = half_twice rows cols;
  wide = omega (arith, half_twice cols rows, p.cols-most);
  inside = omega (arith, mul-le-mul_right {m = 2 * half_of cols rows} {n = cols} rows (half_twice cols rows), mul_comm rows cols, p.long);
  most = omega (arith, area p.rows-most p.cols-most, p.long);
  fits = omega (arith, p.roomy, mul_comm (half_of cols rows) (half_of rows cols));
}

-- column c's pixels lie in the level, and their places in the buffer
pub column_inside : {n room rows height width : ℕ} (c : ℕ) → Halves n room rows height width → c < width
    → (2 * c * rows + 2 * height ≤ n) × (c * height + height ≤ room)
column_inside {rows = rows} {height = height} {width = width} c h less = (
  omega (arith, mul-le-mul_right {m = 2 * c + 1} {n = 2 * width} rows (omega arith), add-mul (2 * c) 1 rows, h.tall, h.inside),
  omega (arith, mul-le-mul_right {m = suc c} {n = width} height less, suc-mul c height, h.fits),
)

-- the halved level stored at the start of a buffer with room for it is what a call that no check refuses leaves
pub halved_stored : (rows cols : ℕ) (l out : List Float) {out' : List Float} → Passed (length l) (length out) rows cols
    → Stored out out' 0 (columns_of (taken_of l rows) (half_of rows cols) (half_of cols rows))
    → outcome (Ok (half_of rows cols, half_of cols rows)) out' ≡ downsampled (Ok tt) rows cols l out
unfolding downsampled halved_of
halved_stored rows cols l out p s = ap (outcome (Ok (half_of rows cols, half_of cols rows))) (stored-start s (omega (arith, length_halved rows cols l, p.roomy)))
