-- A tile's copy has the scene's pixels, so a tile has the scene's samples around each pixel that it judges. Assumes nothing but that the levels have the scene's size.
use Prim.Native.Nat.{ℕ, zero, suc, ◌+◌, ◌-◌, ◌*◌, ◌/◌, ◌%◌, ◌≤◌, ◌<◌}
use native.Mathlib.Omega.{arith}
use mathlib.Core.Path.{◌≡◌, refl}
use mathlib.Core.List.{List}
use lib.ListN.{length, get_or}
use lib.Ieee.{Float, nan}
use Rattle.tiles.specs.Tiles.{tiles_of, start_of, length_of}
use Rattle.tiles.specs.Copy.{tile_level}
use Rattle.tiles.proofs.TilesLaws.{on_side_lem}
use Rattle.tiles.proofs.CopyLaws.{copy_pixel}
use Rattle.seamless.specs.Claims.{Long}
use Rattle.turn.specs.Tiled.{tile_frame, tile_maps}
use Rattle.grid.specs.Grid.{pixel_at}
use Rattle.samples.specs.Level.{Maps, sample_at, samples_of, samples_at, places_of, nine_at, Within}

-- ---- a copy's samples

module _ (l : List Float) (rows cols r0 c0 h w : ℕ) (long : length l ≡ rows * cols) (down : r0 + h ≤ rows) (right : c0 + w ≤ cols) where
  at_pixel : (r c : ℕ) → r < h → c < w → pixel_at (tile_level l rows r0 c0 h w) h r c ≡ pixel_at l rows (r0 + r) (c0 + c)
  at_pixel = copy_pixel l rows cols r0 c0 h w long down right

  -- The copy's sample at (r, c), at least one off its sides, is the scene's at (r0 + r, c0 + c).
  pub copy_sample : (r c : ℕ) (sigma : Float) → 1 ≤ r → r + 1 < h → 1 ≤ c → c + 1 < w
      → sample_at (tile_level l rows r0 c0 h w) h r c sigma ≡ sample_at l rows (r0 + r) (c0 + c) sigma
  unfolding sample_at
  copy_sample r c sigma a b d e =
      let up : r0 + (r - 1) ≡ r0 + r - 1 = omega arith in
      let below : r0 + (r + 1) ≡ r0 + r + 1 = omega arith in
      let left : c0 + (c - 1) ≡ c0 + c - 1 = omega arith in
      let beside : c0 + (c + 1) ≡ c0 + c + 1 = omega arith in
      rw (
        at_pixel r (c - 1) (omega arith) (omega arith),
        at_pixel r (c + 1) (omega arith) (omega arith),
        at_pixel (r - 1) c (omega arith) (omega arith),
        at_pixel (r + 1) c (omega arith) (omega arith),
        at_pixel r c (omega arith) (omega arith),
        up,
        below,
        left,
        beside,
      )

-- ---- a tile's samples

-- the samples at nine places around two pixels agree where they agree at each
places-agree : (samples samples' : ℕ → ℕ → List Float) (row col row' col' n i : ℕ)
    → ((k : ℕ) → i ≤ k → k < i + n → samples (row + k / 3 - 1) (col + k % 3 - 1) ≡ samples' (row' + k / 3 - 1) (col' + k % 3 - 1))
    → places_of samples row col n i ≡ places_of samples' row' col' n i
unfolding places_of
places-agree samples samples' row col row' col' zero i e = refl
places-agree samples samples' row col row' col' (suc n) i e =
    rw (e i (omega arith) (omega arith), places-agree samples samples' row col row' col' n (suc i) (λ k p q. e k (omega arith) (omega arith)))

module _ (step : ℕ) (advances : 0 < step) (m : Maps) (whole : Long m) (i j : ℕ)
    (row-of-tiles : i < tiles_of step m.frame.rows) (col-of-tiles : j < tiles_of step m.frame.cols) where
  abbrev h : ℕ
  h = length_of step m.frame.rows i

  abbrev w : ℕ
  w = length_of step m.frame.cols j

  samples_agree : (r c : ℕ) → 1 ≤ r → r + 1 < h → 1 ≤ c → c + 1 < w
      → samples_at (tile_maps step m i j) r c ≡ samples_at m (start_of step i + r) (start_of step j + c)
  unfolding samples_of
  samples_agree r c a b d e =
      let down = on_side_lem step advances m.frame.rows i row-of-tiles in
      let right = on_side_lem step advances m.frame.cols j col-of-tiles in
      rw (
        copy_sample m.l0 m.frame.rows m.frame.cols (start_of step i) (start_of step j) h w whole.long0 down right r c (get_or m.set.sigmas 0 nan) a b d e,
        copy_sample m.l1 m.frame.rows m.frame.cols (start_of step i) (start_of step j) h w whole.long1 down right r c (get_or m.set.sigmas 1 nan) a b d e,
        copy_sample m.l2 m.frame.rows m.frame.cols (start_of step i) (start_of step j) h w whole.long2 down right r c (get_or m.set.sigmas 2 nan) a b d e,
        copy_sample m.l3 m.frame.rows m.frame.cols (start_of step i) (start_of step j) h w whole.long3 down right r c (get_or m.set.sigmas 3 nan) a b d e,
      )

  -- Around a pixel that a tile judges, tile and scene have the same 36 samples.
  pub nine_agree : (r c : ℕ) → Within 4 (tile_frame step m.frame i j) r c → nine_at (tile_maps step m i j) r c ≡ nine_at m (start_of step i + r) (start_of step j + c)
  nine_agree r c inside =
      places-agree (samples_at (tile_maps step m i j)) (samples_at m) r c (start_of step i + r) (start_of step j + c) 9 0
      (λ k p q.
      let t = inside.top in
      let b = inside.bottom in
      let l = inside.left in
      let g = inside.right in
      let down : start_of step i + (r + k / 3 - 1) ≡ start_of step i + r + k / 3 - 1 = omega arith in
      let right : start_of step j + (c + k % 3 - 1) ≡ start_of step j + c + k % 3 - 1 = omega arith in
      rw (← down, ← right) (samples_agree (r + k / 3 - 1) (c + k % 3 - 1) (omega arith) (omega arith) (omega arith) (omega arith)))
