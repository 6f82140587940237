-- What the tiles list, told by scene pixels, is what the untiled scene lists, put in another order. Assumes nothing but that the levels have the scene's size, and that its sides
-- are at most 2^24, up to which a whole number is a value of f32.
use Rattle.std.specs.Prelude.{Some, None}
use Prim.Native.Nat.{ℕ, zero, suc, ◌+◌, ◌-◌, ◌*◌, ◌<◌}
use native.Mathlib.Omega.{arith}
use mathlib.Core.Path.{◌≡◌, refl, sym, ◌∙◌, subst}
use mathlib.Core.Bool.{Bool, true, false, cond}
use mathlib.Core.List.{List, map, map-map, map-append, Permᴰ}
use lib.Arith.{digits_div, digits_mod}
use Rattle.record.specs.declared.Record.{Record}
use Rattle.pixel.specs.Verdict.{record_of}
use Rattle.sized.specs.Sized.{size_of}
use Rattle.tiles.specs.Tiles.{tiles_of, start_of, length_of}
use Rattle.tiles.specs.Copy.{gather}
use Rattle.tiles.proofs.TilesLaws.{on_side_lem}
use Rattle.tiles.proofs.GatherLaws.{gather-same, gather-map, gather_two, side_tiles, gather_perm, gather_swap}
use Rattle.tile.specs.Numbered.{numbered}
use Rattle.turn.specs.Tiled.{tile_maps, tile_list, tiles, first_tiles}
use Rattle.seamless.specs.Untiled.{Sight, sight_of, sight_whole, untiled, sight_in, tiled}
use Rattle.seamless.specs.Claims.{Long, Sides}
use Rattle.seamless.proofs.Copies.{nine_agree}
use Rattle.seamless.proofs.Form.{lists, made_at, verdict_form}
use Rattle.detect.specs.Due.{judge_of, pixel_due, row_due, rows_due, due}
use Rattle.pixel.specs.Listed.{listed}
use Rattle.samples.specs.Level.{Maps, nine_at, Within}

-- ---- a judged pixel

-- what it lists, where it lists anything
abbrev made_of : Maps → ℕ → ℕ → Bool → Record
made_of m row col is_max = made_at m.set m.thresholds m.frame.octave (nine_at m row col) is_max row col (row * m.frame.cols + col)

abbrev lists_at : Maps → ℕ → ℕ → Bool → Bool
lists_at m row col is_max = lists m.set m.thresholds m.frame.octave (nine_at m row col) is_max

judged_form : (m : Maps) → Sides m → (row col : ℕ) (is_max : Bool) → Within 4 m.frame row col
    → judge_of m row col is_max ≡ cond (lists_at m row col is_max) (Some (made_of m row col is_max)) None
unfolding judge_of
judged_form m s row col is_max inside =
    verdict_form m.set m.thresholds m.frame.octave (nine_at m row col) is_max m.frame.rows m.frame.cols s.rows-most s.cols-most row col inside

-- a sight of what two pixels list, where both list or neither does
both_seen : (t t' : Record → Sight) (b : Bool) (x y : Record) → t x ≡ t' y
    → map t (listed (cond b (Some x) None)) ≡ map t' (listed (cond b (Some y) None))
unfolding listed
both_seen t t' true x y e = rw e
both_seen t t' false x y e = refl

module _ (step : ℕ) (advances : 0 < step) (m : Maps) (whole : Long m) (sides : Sides m) where
  module _ (i j : ℕ) (row-of-tiles : i < tiles_of step m.frame.rows) (col-of-tiles : j < tiles_of step m.frame.cols) where
    abbrev tile : Maps
    tile = tile_maps step m i j

    abbrev seen : Record → Sight
    seen r = sight_in step m (numbered i j r)

    tile_sides : Sides tile
    tile_sides =
        let down = on_side_lem step advances m.frame.rows i row-of-tiles in
        let right = on_side_lem step advances m.frame.cols j col-of-tiles in
        let a = sides.rows-most in
        let b = sides.cols-most in
        record { rows-most = omega arith; cols-most = omega arith }

    module _ (r c : ℕ) (inside : Within 4 tile.frame r c) where
      abbrev row : ℕ
      row = start_of step i + r

      abbrev col : ℕ
      col = start_of step j + c

      scene_inside : Within 4 m.frame row col
      scene_inside =
          let down = on_side_lem step advances m.frame.rows i row-of-tiles in
          let right = on_side_lem step advances m.frame.cols j col-of-tiles in
          let t = inside.top in
          let b = inside.bottom in
          let l = inside.left in
          let g = inside.right in
          record { top = omega arith; bottom = omega arith; left = omega arith; right = omega arith }

      -- tile and scene tell the same of the record
      same_sight : (is_max : Bool) → seen (made_of tile r c is_max) ≡ sight_whole m (made_of m row col is_max)
      unfolding sight_in sight_whole sight_of record_of size_of
      same_sight is_max =
          let g = inside.right in
          let on : c < tile.frame.cols = omega arith in
          let on' : col < m.frame.cols = let z = scene_inside.right in omega arith in
          rw (digits_div r on, digits_mod r on, digits_div row on', digits_mod row on', nine_agree step advances m whole i j row-of-tiles col-of-tiles r c inside)

      -- A pixel that a tile judges is listed by the tile exactly where the scene lists it, and both tell the same of it.
      pub pixel_agree : (is_max : Bool) → map seen (listed (judge_of tile r c is_max)) ≡ map (sight_whole m) (listed (judge_of m row col is_max))
      pixel_agree is_max =
          let same : lists_at tile r c is_max ≡ lists_at m row col is_max = rw (nine_agree step advances m whole i j row-of-tiles col-of-tiles r c inside) in
          rw (judged_form tile tile_sides r c is_max inside, judged_form m sides row col is_max scene_inside, same)
          (both_seen seen (sight_whole m) (lists_at m row col is_max) (made_of tile r c is_max) (made_of m row col is_max) (same_sight is_max))

      pub pixel_list_agree : map seen (pixel_due tile r c) ≡ map (sight_whole m) (pixel_due m row col)
      unfolding pixel_due
      pixel_list_agree =
          map-append seen (listed (judge_of tile r c false)) (listed (judge_of tile r c true))
          ∙ rw (pixel_agree false, pixel_agree true) (sym (map-append (sight_whole m) (listed (judge_of m row col false)) (listed (judge_of m row col true))))

  -- ---- the lists

  -- what the scene's pixel lists, told by scene pixels, counted from the first judged one
  abbrev sights_at : ℕ → ℕ → List Sight
  sights_at row col = map (sight_whole m) (pixel_due m (row + 4) (col + 4))

  -- the due list of any map is gathered from its judged pixels
  row_gathers : (n : Maps) (t : Record → Sight) (row k : ℕ) → map t (row_due n row k) ≡ gather (λ c. map t (pixel_due n row (c + 4))) k
  unfolding row_due gather
  row_gathers n t row zero = refl
  row_gathers n t row (suc k) = map-append t (row_due n row k) (pixel_due n row (k + 4)) ∙ rw (row_gathers n t row k)

  rows-gather : (n : Maps) (t : Record → Sight) (k : ℕ) → map t (rows_due n k) ≡ gather (λ r. gather (λ c. map t (pixel_due n (r + 4) (c + 4))) (n.frame.cols - 8)) k
  unfolding rows_due gather
  rows-gather n t zero = refl
  rows-gather n t (suc k) =
      map-append t (rows_due n k) (row_due n (k + 4) (n.frame.cols - 8)) ∙ rw (rows-gather n t k, row_gathers n t (k + 4) (n.frame.cols - 8))

  untiled_gathers : untiled m ≡ gather (λ r. gather (λ c. sights_at r c) (m.frame.cols - 8)) (m.frame.rows - 8)
  unfolding untiled due
  untiled_gathers = rows-gather m (sight_whole m) (m.frame.rows - 8)

  -- what a tile lists
  tile_gathers : (i j : ℕ) → i < tiles_of step m.frame.rows → j < tiles_of step m.frame.cols
      → map (sight_in step m) (tile_list step m i j)
      ≡ gather (λ r. gather (λ c. sights_at (start_of step i + r) (start_of step j + c)) (length_of step m.frame.cols j - 8)) (length_of step m.frame.rows i - 8)
  unfolding tile_list due
  tile_gathers i j p q =
      map-map (sight_in step m) (numbered i j) (due (tile_maps step m i j))
      ∙ rows-gather (tile_maps step m i j) (λ r. sight_in step m (numbered i j r)) (length_of step m.frame.rows i - 8)
      ∙ gather-same _ _ (length_of step m.frame.rows i - 8)
      (λ r below.
      gather-same _ _ (length_of step m.frame.cols j - 8)
      (λ c beside.
      let e : start_of step i + (r + 4) ≡ start_of step i + r + 4 = omega arith in
      let f : start_of step j + (c + 4) ≡ start_of step j + c + 4 = omega arith in
      rw (← e, ← f) (pixel_list_agree i j p q (r + 4) (c + 4) (record { top = omega arith; bottom = omega arith; left = omega arith; right = omega arith }))))

  -- what all tiles list
  tiled_gathers : tiled step m ≡ gather (λ i. gather (λ j. map (sight_in step m) (tile_list step m i j)) (tiles_of step m.frame.cols)) (tiles_of step m.frame.rows)
  unfolding tiled first_tiles
  tiled_gathers =
      gather-map (sight_in step m) _ (tiles step m.frame)
      ∙ gather_two (λ i j. map (sight_in step m) (tile_list step m i j)) (tiles_of step m.frame.cols) (tiles_of step m.frame.rows)

  -- one row of tiles: its judged rows, each across all tiles
  row_of_tiles_perm : (i : ℕ) → i < tiles_of step m.frame.rows
      → Permᴰ (gather (λ j. map (sight_in step m) (tile_list step m i j)) (tiles_of step m.frame.cols))
      (gather (λ r. gather (λ c. sights_at (start_of step i + r) c) (m.frame.cols - 8)) (length_of step m.frame.rows i - 8))
  row_of_tiles_perm i p =
      let first = gather-same (λ j. map (sight_in step m) (tile_list step m i j)) _ (tiles_of step m.frame.cols) (λ j q. tile_gathers i j p q) in
      let second = gather-same
      (λ r. gather (λ j. gather (λ c. sights_at (start_of step i + r) (start_of step j + c)) (length_of step m.frame.cols j - 8)) (tiles_of step m.frame.cols))
      (λ r. gather (λ c. sights_at (start_of step i + r) c) (m.frame.cols - 8))
      (length_of step m.frame.rows i - 8)
      (λ r q. side_tiles step advances m.frame.cols (λ c. sights_at (start_of step i + r) c)) in
      subst (λ l. Permᴰ l (gather (λ r. gather (λ c. sights_at (start_of step i + r) c) (m.frame.cols - 8)) (length_of step m.frame.rows i - 8))) (sym first)
      (subst (λ l. Permᴰ (gather (λ j. gather (λ r. gather (λ c. sights_at (start_of step i + r) (start_of step j + c)) (length_of step m.frame.cols j - 8)) (length_of step m.frame.rows i - 8)) (tiles_of step m.frame.cols)) l) second
      (gather_swap (λ j r. gather (λ c. sights_at (start_of step i + r) (start_of step j + c)) (length_of step m.frame.cols j - 8)) (tiles_of step m.frame.cols) (length_of step m.frame.rows i - 8)))

  -- The tiled list is the untiled list in another order.
  pub tiled-untiled : Permᴰ (tiled step m) (untiled m)
  tiled-untiled =
      let rows = side_tiles step advances m.frame.rows (λ r. gather (λ c. sights_at r c) (m.frame.cols - 8)) in
      subst (λ l. Permᴰ (tiled step m) l) (sym untiled_gathers)
      (subst (λ l. Permᴰ l (gather (λ r. gather (λ c. sights_at r c) (m.frame.cols - 8)) (m.frame.rows - 8))) (sym tiled_gathers)
      (subst (λ l. Permᴰ (gather (λ i. gather (λ j. map (sight_in step m) (tile_list step m i j)) (tiles_of step m.frame.cols)) (tiles_of step m.frame.rows)) l) rows
      (gather_perm _ _ (tiles_of step m.frame.rows) row_of_tiles_perm)))
