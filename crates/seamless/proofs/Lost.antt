-- Demand 3 over scene pixels: the list of a scene that lost pixels is the whole scene's, less the spots with a lost pixel among their 21. Assumes nothing but that the levels have
-- the scene's size.
use Prim.Native.Nat.{ℕ, zero, suc, ◌+◌, ◌-◌, ◌*◌, ◌/◌, ◌%◌, ◌≤◌, ◌<◌}
use native.Mathlib.Omega.{arith}
use native.Mathlib.Nat.{div-lt_iff_lt-mul, mod-lt}
use mathlib.Core.Path.{◌≡◌, refl, sym, ap, ◌∙◌}
use mathlib.Core.Bool.{Bool, true, false, cond}
use mathlib.Core.List.{List, [], ◌∷◌, ◌++◌, map}
use lib.ListN.{length}
use lib.Ieee.{Float}
use Rattle.tables.specs.declared.Set.{Set}
use Rattle.tables.specs.declared.Thresholds.{Thresholds}
use Rattle.record.specs.declared.Record.{Record}
use Rattle.pixel.specs.declared.Frame.{Frame}
use Rattle.tiles.specs.Tiles.{tiles_of, start_of, length_of}
use Rattle.tiles.specs.Copy.{gather}
use Rattle.tiles.proofs.TilesLaws.{on_side_lem, some-tile}
use Rattle.tiles.proofs.GatherLaws.{gather-same}
use Rattle.tiles.proofs.CopyLaws.{copy_pixel}
use Rattle.tile.specs.Numbered.{Numbered, numbered}
use Rattle.turn.specs.Tiled.{tile_frame, tile_copy, tile_maps, tile_list, across, tiles, first_tiles, scene_list}
use Rattle.seamless.specs.Claims.{keep_if, spared_in, Long}
use Rattle.detect.specs.Due.{due}
use Rattle.grid.specs.Grid.{pixel_at}
use Rattle.samples.specs.Level.{Maps, maps_of}
use Rattle.demands.specs.List.{StandsAt, Stands}
use Rattle.demands.specs.TwoMaps.{off, of21, clear_to, spared, keep, finites, Lossy}
use Rattle.demands.proofs.Listed.{list_is, own_key}
use Rattle.demands.proofs.TwoMaps.{two_maps}

-- ---- the 21 pixels, seen from a tile

off_shift : (a x y : ℕ) → off (a + x) (a + y) ≡ off x y
off_shift a x y = omega arith

module _ (lost : ℕ → ℕ → Bool) (r0 c0 row col : ℕ) (low : 2 ≤ row) (left : 2 ≤ col) where
  clear_shift : (n : ℕ) → clear_to (λ r c. lost (r0 + r) (c0 + c)) row col n ≡ clear_to lost (r0 + row) (c0 + col) n
  unfolding clear_to of21
  clear_shift zero = refl
  clear_shift (suc n) =
      let a : r0 + (row + n / 5 - 2) ≡ r0 + row + n / 5 - 2 = omega arith in
      let b : c0 + (col + n % 5 - 2) ≡ c0 + col + n % 5 - 2 = omega arith in
      rw (← a, ← b, clear_shift n, off_shift r0 row (row + n / 5 - 2), off_shift c0 col (col + n % 5 - 2))

-- ---- kept records

keep-map : (test : Numbered → Bool) (i j : ℕ) (rs : List Record) → keep_if test (map (numbered i j) rs) ≡ map (numbered i j) (keep (λ r. test (numbered i j r)) rs)
unfolding keep_if keep
keep-map test i j [] = refl
keep-map test i j (r ∷ rs) = rw (keep-map test i j rs) (go (test (numbered i j r)))
  where
    go : (b : Bool) → cond b (numbered i j r ∷ map (numbered i j) (keep (λ r. test (numbered i j r)) rs)) (map (numbered i j) (keep (λ r. test (numbered i j r)) rs))
        ≡ map (numbered i j) (cond b (r ∷ keep (λ r. test (numbered i j r)) rs) (keep (λ r. test (numbered i j r)) rs))
    go true = refl
    go false = refl

keep_same : (a b : Record → Bool) (rs : List Record) → ((i : ℕ) (r : Record) → StandsAt rs i r → a r ≡ b r) → keep a rs ≡ keep b rs
unfolding keep StandsAt
keep_same a b [] e = refl
keep_same a b (r ∷ rs) e = rw (e 0 r refl, keep_same a b rs (λ i u s. e (suc i) u s))

keep_append : {A : Type 0} (test : A → Bool) (xs ys : List A) → keep_if test (xs ++ ys) ≡ keep_if test xs ++ keep_if test ys
unfolding keep_if
keep_append test [] ys = refl
keep_append test (x ∷ xs) ys = rw (keep_append test xs ys) (go (test x))
  where
    go : (b : Bool) → cond b (x ∷ (keep_if test xs ++ keep_if test ys)) (keep_if test xs ++ keep_if test ys) ≡ cond b (x ∷ keep_if test xs) (keep_if test xs) ++ keep_if test ys
    go true = refl
    go false = refl

keep-gather : {A : Type 0} (test : A → Bool) (f : ℕ → List A) (n : ℕ) → keep_if test (gather f n) ≡ gather (λ k. keep_if test (f k)) n
unfolding gather keep_if
keep-gather test f zero = refl
keep-gather test f (suc n) = rw (keep_append, keep-gather test f n)

-- ---- two scenes

module _ (step : ℕ) (advances : 0 < step) (lost : ℕ → ℕ → Bool) (f : Frame) (s : Set) (th : Thresholds) (a0 a1 a2 a3 b0 b1 b2 b3 : List Float)
    (whole-a : Long (maps_of a0 a1 a2 a3 f s th)) (whole-b : Long (maps_of b0 b1 b2 b3 f s th))
    (h : Lossy lost (maps_of a0 a1 a2 a3 f s th) (maps_of b0 b1 b2 b3 f s th)) where
  abbrev A : Maps
  A = maps_of a0 a1 a2 a3 f s th

  abbrev B : Maps
  B = maps_of b0 b1 b2 b3 f s th

  module _ (i j : ℕ) (p : i < tiles_of step f.rows) (q : j < tiles_of step f.cols) where
    abbrev H : ℕ
    H = length_of step f.rows i

    abbrev W : ℕ
    W = length_of step f.cols j

    -- a pixel lost in the scene is lost in the tile
    abbrev lost_here : ℕ → ℕ → Bool
    lost_here r c = lost (start_of step i + r) (start_of step j + c)

    pixel_of : (l : List Float) → length l ≡ f.rows * f.cols → (r c : ℕ) → r < H → c < W
        → pixel_at (tile_copy step f i j l) H r c ≡ pixel_at l f.rows (start_of step i + r) (start_of step j + c)
    pixel_of l long = copy_pixel l f.rows f.cols (start_of step i) (start_of step j) H W long (on_side_lem step advances f.rows i p) (on_side_lem step advances f.cols j q)

    tile_lossy : Lossy lost_here (tile_maps step A i j) (tile_maps step B i j)
    tile_lossy =
        let down = on_side_lem step advances f.rows i p in
        let right = on_side_lem step advances f.cols j q in
        record {
          stays = λ r c u v kept.
              let same = h.stays (start_of step i + r) (start_of step j + c) (omega arith) (omega arith) kept in
              record {
                level0 = pixel_of a0 whole-a.long0 r c u v ∙ same.level0 ∙ sym (pixel_of b0 whole-b.long0 r c u v);
                level1 = pixel_of a1 whole-a.long1 r c u v ∙ same.level1 ∙ sym (pixel_of b1 whole-b.long1 r c u v);
                level2 = pixel_of a2 whole-a.long2 r c u v ∙ same.level2 ∙ sym (pixel_of b2 whole-b.long2 r c u v);
                level3 = pixel_of a3 whole-a.long3 r c u v ∙ same.level3 ∙ sym (pixel_of b3 whole-b.long3 r c u v);
              };
          gone = λ r c u v g.
              unfold finites in
              rw (pixel_of b0 whole-b.long0 r c u v, pixel_of b1 whole-b.long1 r c u v, pixel_of b2 whole-b.long2 r c u v, pixel_of b3 whole-b.long3 r c u v)
              (h.gone (start_of step i + r) (start_of step j + c) (omega arith) (omega arith) g);
        }

    -- whether a record that the tile lists is spared is told by its scene pixel
    spared-here : (r : Record) → Stands (due (tile_maps step A i j)) r → spared lost_here W r ≡ spared_in step f lost (numbered i j r)
    unfolding spared spared_in
    spared-here r stands =
        let a = (list_is (tile_maps step A i j) r).0 stands in
        let own = (own_key (tile_maps step A i j) a.row a.col a.is_max r a.judged a.rules).1 in
        let t = a.judged.top in
        let l = a.judged.left in
        rw (own.row_is, own.col-is) (clear_shift lost (start_of step i) (start_of step j) a.row a.col (omega arith) (omega arith) 25)

    tile_two : tile_list step B i j ≡ keep_if (spared_in step f lost) (tile_list step A i j)
    unfolding tile_list
    tile_two =
        ap (map (numbered i j))
        (two_maps lost_here (tile_frame step f i j) s th (tile_copy step f i j a0) (tile_copy step f i j a1) (tile_copy step f i j a2) (tile_copy step f i j a3)
        (tile_copy step f i j b0) (tile_copy step f i j b1) (tile_copy step f i j b2) (tile_copy step f i j b3) tile_lossy
        ∙ keep_same (spared lost_here W) (λ r. spared_in step f lost (numbered i j r)) (due (tile_maps step A i j)) (λ k r stands. spared-here r (record { place = k; there = stands })))
        ∙ sym (keep-map (spared_in step f lost) i j (due (tile_maps step A i j)))

  -- The same of the first n tiles.
  pub tiles_two : (n : ℕ) → n ≤ tiles step f → first_tiles step B n ≡ keep_if (spared_in step f lost) (first_tiles step A n)
  unfolding first_tiles
  tiles_two n most =
      gather-same _ _ n
      (λ k below. tile_two (k / across step f) (k % across step f) ((div-lt_iff_lt-mul {k = across step f} {x = k} {y = tiles_of step f.rows} (some-tile step f.cols)).1 (omega arith)) (mod-lt k (some-tile step f.cols)))
      ∙ sym (keep-gather (spared_in step f lost) (λ k. tile_list step A (k / across step f) (k % across step f)) n)

  -- The list of a scene that lost pixels is the first scene's, less each spot with a lost pixel among its 21 scene pixels: order and every bit of the rest are kept.
  pub scenes_two : scene_list step B ≡ keep_if (spared_in step f lost) (scene_list step A)
  scenes_two = tiles_two (tiles step f) (omega arith)
