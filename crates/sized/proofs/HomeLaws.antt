-- The home pixel: for each readable record it is the pixel nearest to the record's y and x and no other, it lies on the map, it is at most half a pixel off each way,
-- and it comes from x and y alone. Assumes nothing.
use Prim.Native.Nat.{ℕ, zero, suc, ◌+◌, ◌-◌, ◌*◌, ◌^◌, ◌≤◌, ◌<◌}
use native.Mathlib.Nat.{le_trans, le_of_eq, mul-one, mul-zero, zero-mul, mul-le-mul_right, not-suc-le-zero}
use native.Mathlib.Omega.{arith}
use mathlib.Core.Bool.{true}
use mathlib.Core.Path.{◌≡◌, sym}
use lib.IntN.{pos}
use lib.Dec.{T}
use lib.Ieee.{Float, binary32, le, of_int}
use lib.Ieee.Positive.{num, den}
use Rattle.float.specs.Num.{f0}
use Rattle.float.specs.Small.{finite}
use Rattle.float.proofs.Bools.{says, both}
use Rattle.float.proofs.Floats.{whole-value}
use Rattle.float.proofs.Order.{up_to}
use Rattle.whole.specs.Nearest.{Nearest, largest, nearest_of}
use Rattle.whole.proofs.NearestLaws as near
use Rattle.record.specs.declared.Record.{Record}
use Rattle.record.specs.Readable.{within, on_side, readable, Readable}
use Rattle.record.proofs.ReadableLaws.{readable_parts}
use Rattle.sized.specs.Sized.{home_of, NearestPixel, Placed}

-- ---- a float on a side, by whole numbers

-- 0 to n - 1
pub on_side_lem : (n : ℕ) (x : Float) → n ≤ 4096 → on_side n x ≡ true → T (le f0 x) × (num x ≤ (n - 1) * den x)
unfolding on_side within
on_side_lem n x l h =
    let p = both (le f0 x) (le x (of_int binary32 (pos (n - 1)))) h in
    let last : n - 1 ≤ 2 ^ 24 = omega arith in
    (says _ p.0, le_trans (le_of_eq (sym (mul-one (num x)))) (up_to x (of_int binary32 (pos (n - 1))) (n - 1) 1 (whole-value (n - 1) last) (says _ p.0) (says _ p.1)))

side_nearest : (n : ℕ) (x : Float) → n ≤ 4096 → finite x ≡ true → on_side n x ≡ true → Nearest x (nearest_of x)
side_nearest n x l f h =
    let p = on_side_lem n x l h in
    let few : n - 1 ≤ largest = omega arith in
    near.nearest_is x f p.0 (le_trans p.1 (mul-le-mul_right (den x) few))

-- the nearest number is on the side too
pub side_under : (n : ℕ) (x : Float) → 0 < n → n ≤ 4096 → finite x ≡ true → on_side n x ≡ true → nearest_of x < n
side_under n x some l f h =
    let p = on_side_lem n x l h in
    let most = near.nearest_most x (n - 1) f p.0 (omega arith) p.1 in
    omega arith

some-cols : (rows cols k : ℕ) → k < rows * cols → 0 < cols
some-cols rows zero k l = absurd (not-suc-le-zero (rw (mul-zero rows) at l))
some-cols rows (suc c) k l = omega arith

some-rows : (rows cols k : ℕ) → k < rows * cols → 0 < rows
some-rows zero cols k l = absurd (not-suc-le-zero (rw (zero-mul cols) at l))
some-rows (suc c) cols k l = omega arith

-- ---- the home of a readable record

module _ (rows cols : ℕ) (r : Record) (rows-most : rows ≤ 4096) (cols-most : cols ≤ 4096) (fair : readable rows cols r ≡ true) where
  parts : Readable rows cols r
  parts = readable_parts rows cols r fair

  -- it is the pixel nearest to the record's y and x
  pub home_nearest : NearestPixel r (home_of r).row (home_of r).col
  unfolding home_of
  home_nearest = record { to-y = side_nearest rows r.y rows-most parts.floats.y parts.y; to-x = side_nearest cols r.x cols-most parts.floats.x parts.x }

  -- and no other pixel is
  pub home_only : (row col : ℕ) → NearestPixel r row col → home_of r ≡ record { row = row; col = col }
  unfolding home_of
  home_only row col h =
      let y-is = near.nearest_only r.y (nearest_of r.y) row home_nearest.to-y h.to-y in
      let x-is = near.nearest_only r.x (nearest_of r.x) col home_nearest.to-x h.to-x in
      rw (y-is, x-is)

  -- it lies on the map
  pub home_on-map : ((home_of r).row < rows) × ((home_of r).col < cols)
  unfolding home_of
  home_on-map =
      let y-under = side_under rows r.y (some-rows rows cols r.key parts.key) rows-most parts.floats.y parts.y in
      let x-under = side_under cols r.x (some-cols rows cols r.key parts.key) cols-most parts.floats.x parts.x in
      (y-under, x-under)

  -- it is at most half a pixel off: 2 row - 1 <= 2 y <= 2 row + 1, both sides multiplied by y's denominator
  pub home_half_off-y : (2 * (home_of r).row * den r.y ≤ 2 * num r.y + den r.y) × (2 * num r.y ≤ 2 * (home_of r).row * den r.y + den r.y)
  home_half_off-y = near.half_off r.y (home_of r).row home_nearest.to-y

  -- and the same of col and x
  pub home_half_off-x : (2 * (home_of r).col * den r.x ≤ 2 * num r.x + den r.x) × (2 * num r.x ≤ 2 * (home_of r).col * den r.x + den r.x)
  home_half_off-x = near.half_off r.x (home_of r).col home_nearest.to-x

  -- two bytes each hold it
  pub home_placed : Placed r
  home_placed = record { row = omega (arith, home_on-map.0); col = omega (arith, home_on-map.1) }

-- records that agree in x and y have the same home, whatever else differs, their keys and their maps among it
pub home_own : (r t : Record) → r.x ≡ t.x → r.y ≡ t.y → home_of r ≡ home_of t
unfolding home_of
home_own r t x y = rw (x, y)
