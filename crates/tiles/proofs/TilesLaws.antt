-- Along a side each judged pixel lies in the judged part of exactly one tile. Assumes nothing but that tiles advance.
use Prim.Native.Nat.{ℕ, zero, suc, ◌+◌, ◌-◌, ◌*◌, ◌/◌, ◌≤◌, ◌<◌}
use native.Mathlib.Omega.{arith}
use native.Mathlib.Nat.{le-div_iff_mul-le, div-add-mod', lt-div-mul-add, div-eq_of_lt-le, mul-le-mul_right, eq-zero-or-pos}
use mathlib.Core.Path.{◌≡◌, sym, ap}
use mathlib.Core.Logic.{◌↔◌, ⊎_elim}
use Rattle.tiles.specs.Tiles.{Covered, tile_step, run_of, tiles_of, start_of, length_of, JudgedIn, JudgedOn, tile_at, local_at}

-- a side has a tile, even a side of no pixels
pub some-tile : (step side : ℕ) → 0 < tiles_of step side
unfolding tiles_of
some-tile step side = omega arith

module _ (step : ℕ) (advances : 0 < step) (side : ℕ) where
  -- tile k + 1 follows exactly when pixels past tile k remain
  pub follows : (k : ℕ) → (suc k < tiles_of step side) ↔ (start_of step k + run_of step < side)
  unfolding tiles_of
  follows k =
      let e = le-div_iff_mul-le {k = step} {x = suc k} {y = side - 9} advances in
      let s : suc k * step ≡ k * step + step = omega arith in
      ((λ h. let m = e.0 (omega arith) in omega arith), (λ h. let m = e.1 (omega arith) in omega arith))

  -- a later tile begins at least nine pixels before the side's end
  starts_before : (k : ℕ) → 0 < k → k < tiles_of step side → start_of step k + 8 < side
  starts_before zero p h = let z : ⊥ = omega arith in absurd z
  starts_before (suc k) p h = let f = (follows k).0 h in let s : suc k * step ≡ k * step + step = omega arith in omega arith

  -- every tile lies on the side
  pub on_side_lem : (k : ℕ) → k < tiles_of step side → start_of step k + length_of step side k ≤ side
  unfolding length_of
  on_side_lem zero h = omega arith
  on_side_lem (suc k) h = let f = starts_before (suc k) (omega arith) h in omega arith

  -- a later tile is at least nine pixels long
  pub later_long : (k : ℕ) → 0 < k → k < tiles_of step side → 9 ≤ length_of step side k
  unfolding length_of
  later_long k p h = let f = starts_before k p h in omega arith

  -- a tile that is followed is whole
  pub followed_whole : (k : ℕ) → suc k < tiles_of step side → length_of step side k ≡ run_of step
  unfolding length_of
  followed_whole k h = let f = (follows k).0 h in omega arith

  -- the last tile ends where the side ends
  pub last_ends : (k : ℕ) → suc k ≡ tiles_of step side → start_of step k + length_of step side k ≡ side
  unfolding length_of tiles_of
  last_ends k h =
      let q = lt-div-mul-add {a = side - 9} {b = step} advances in
      let e : (side - 9) / step * step ≡ k * step = ap (λ (x : ℕ). x * step) (omega arith) in
      let c = on_side_lem k (omega arith) in
      omega arith

  -- ---- each judged pixel in one tile

  -- a judged pixel is judged by the tile that tile_at tells
  pub judged-somewhere : (p : ℕ) → JudgedOn side p → JudgedIn step side (tile_at step p) (local_at step p) p
  unfolding tile_at local_at tiles_of length_of
  judged-somewhere p j =
      let q = lt-div-mul-add {a = p - 4} {b = step} advances in
      let r = div-add-mod' (p - 4) step in
      let t = (le-div_iff_mul-le {k = step} {x = (p - 4) / step} {y = side - 9} advances).1 (omega arith) in
      record { tile = omega arith; low = omega arith; high = omega arith; there = omega arith }

  -- what a tile judges the scene judges
  pub judged-on : (k local p : ℕ) → JudgedIn step side k local p → JudgedOn side p
  judged-on k local p j = let s = on_side_lem k j.tile in let h = j.high in let l = j.low in let t = j.there in record { low = omega arith; high = omega arith }

  -- and no other tile judges it
  pub judged_once : (k local p : ℕ) → JudgedIn step side k local p → (k ≡ tile_at step p) × (local ≡ local_at step p)
  unfolding tile_at local_at length_of
  judged_once k local p j =
      let h = j.high in
      let l = j.low in
      let t = j.there in
      let s : (k + 1) * step ≡ k * step + step = omega arith in
      let e = div-eq_of_lt-le {k = k} step {m = p - 4} (omega arith) (omega arith) in
      let f : (p - 4) / step * step ≡ k * step = ap (λ (x : ℕ). x * step) e in
      (sym e, omega arith)

  -- ---- every pixel in some tile

  covered_here : (p : ℕ) → p < side → p / step < tiles_of step side → Covered step side p
  unfolding length_of
  covered_here p h k =
      let q = lt-div-mul-add {a = p} {b = step} advances in
      let r = div-add-mod' p step in
      record { number = p / step; local = p - start_of step (p / step); tile = k; inside = omega arith; there = omega arith }

  covered_last : (p : ℕ) → p < side → tiles_of step side ≤ p / step → Covered step side p
  covered_last p h k =
      let r = div-add-mod' p step in
      let some = some-tile step side in
      let e = last_ends (tiles_of step side - 1) (omega arith) in
      let g : (tiles_of step side - 1) * step ≤ p / step * step = mul-le-mul_right step (omega arith) in
      record { number = tiles_of step side - 1; local = p - start_of step (tiles_of step side - 1); tile = omega arith; inside = omega arith; there = omega arith }

  -- the tiles cover the side
  pub covered : (p : ℕ) → p < side → Covered step side p
  covered p h =
      ⊎_elim (λ z. covered_last p h (omega arith)) (λ z. covered_here p h (omega arith)) (eq-zero-or-pos (tiles_of step side - p / step))

-- a tile of a step to 4,088 has at most 4,096 pixels along a side
pub tile-most : (step side k : ℕ) → step ≤ tile_step → length_of step side k ≤ 4096
unfolding length_of
tile-most step side k h = omega arith
