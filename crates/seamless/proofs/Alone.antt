-- A scene's output is its tiles' own outputs one after the other, and each tile's is what the detector and the join give of the tile alone.
-- Assumes nothing but that the levels have the scene's size.
use Rattle.std.specs.Prelude.{Ok}
use Prim.Native.Nat.{ℕ, suc, ◌+◌, ◌*◌, ◌/◌, ◌%◌, ◌≤◌, ◌<◌}
use native.Mathlib.Omega.{arith}
use mathlib.Core.Path.{◌≡◌, refl, ap, subst}
use mathlib.Core.Bool.{true, false}
use mathlib.Core.List.{List, [], ◌∷◌}
use lib.ListN.{length, take}
use lib.Seq.{take_at, drop_at}
use lib.Ieee.{Float}
use Rattle.tables.specs.declared.Set.{Set}
use Rattle.tables.specs.declared.Thresholds.{Thresholds}
use Rattle.tables.specs.Set.{good}
use Rattle.tables.specs.Refusal.{any_nan}
use Rattle.record.specs.declared.Record.{Record}
use Rattle.record.specs.Layout.{spot_width, record_at, laid, written}
use Rattle.samples.specs.Level.{Maps}
use Rattle.detect.specs.Due.{due}
use Rattle.detect.specs.Detect.{Outcome, detect_of}
use Rattle.sized.specs.Sized.{sized_width, sized_bytes}
use Rattle.join.specs.Join.{records_from, sized_all, laid_sized, joined, join_by, join_of}
use Rattle.join.specs.Join as join
use Rattle.sized.proofs.SizedLaws.{length-sized_bytes}
use Rattle.demands.specs.List.{StandsAt}
use Rattle.demands.specs.Joined.{Joins}
use Rattle.demands.proofs.Joined.{output_joined}
use Rattle.tiles.specs.Tiles.{tile_step, tiles_of, start_of, length_of}
use Rattle.tiles.specs.Copy.{gather}
use Rattle.tiles.proofs.TilesLaws.{on_side_lem, tile-most}
use Rattle.tiles.proofs.GatherLaws.{gather-same}
use Rattle.tiles.proofs.CopyLaws.{copy_long}
use Rattle.tile.specs.Numbered.{numbered_bytes, all_bytes, tile_bytes}
use Rattle.tile.specs.Tile.{Small, found_in}
use Rattle.tile.proofs.ListLaws.{detects}
use Rattle.turn.specs.Tiled.{tile_copy, tile_maps, tile_list, across}
use Rattle.turn.specs.Turn.{front}
use Rattle.scene.specs.Scene.{bytes_to}
use Rattle.seamless.specs.Claims.{Long}
use Rattle.seamless.specs.Alone.{with_numbers, Alone}

-- ---- a tile by itself

-- what the join makes of records, numbered record by record, is the tile's bytes
sized_numbered : (s : Set) (i j : ℕ) (rs : List Record) → tile_bytes s i j rs ≡ with_numbers i j (length rs) (sized_all false s rs)
unfolding all_bytes with_numbers sized_all numbered_bytes
sized_numbered s i j [] = refl
sized_numbered s i j (r ∷ rs) =
    rw (take_at (sized_bytes s r) (sized_all false s rs) sized_width (length-sized_bytes s r), drop_at (sized_bytes s r) (sized_all false s rs) sized_width (length-sized_bytes s r), sized_numbered s i j rs)

-- records that stand at their places are the list
records_are : (b : List ℕ) (rs : List Record) (i : ℕ) → ((k : ℕ) → k < length rs → StandsAt rs k (record_at b (i + k))) → records_from false b (length rs) i ≡ rs
unfolding records_from StandsAt
records_are b [] i h = refl
records_are b (r ∷ rs) i h =
    let e : i + 0 ≡ i = omega arith in
    let first : r ≡ record_at b i = rw e at (h 0 (omega arith)) in
    rw (← first, records_are b rs (suc i) (λ k p. let g : i + suc k ≡ suc i + k = omega arith in rw g at (h (suc k) (omega arith))))

joins_give : (s : Set) (h w : ℕ) (rs : List Record) (b o : List ℕ) → Joins h w rs (length rs) b → good s ≡ true → length rs * sized_width ≤ length o
    → join_of s h w b o ≡ join.outcome (Ok (length rs)) (front (sized_all false s rs) o)
unfolding join_by joined laid_sized
joins_give s h w rs b o j is-good room =
    rw (j.fine s (length o) is-good room, j.count-is, records_are b rs 0 (λ k p. let e : 0 + k ≡ k = omega arith in rw e (j.as_found k p)))

module _ (s : Set) (th : Thresholds) (h w octave : ℕ) (l0 l1 l2 l3 : List Float) (p : Small s th h w octave (length l0) (length l1) (length l2) (length l3)) where
  abbrev found : List Record
  found = found_in s th h w octave l0 l1 l2 l3

  alone-joins : (b o : List ℕ) → length found * spot_width ≤ length b → length found * sized_width ≤ length o
      → join_of s h w (take (length found * spot_width) (laid found b)) o ≡ join.outcome (Ok (length found)) (front (sized_all false s found) o)
  alone-joins b o room room' =
      let d = detects s th h w octave l0 l1 l2 l3 p b in
      let n : written found b ≡ length found = omega arith in
      let j = output_joined s th h w octave l0 l1 l2 l3 b (length found) (ap (λ (x : Outcome). x.answer) d) in
      joins_give s h w found (take (length found * spot_width) (laid found b)) o
      (subst (λ (x : List ℕ). Joins h w found (length found) (take (length found * spot_width) x)) (ap (λ (x : Outcome). x.buffer) d)
      (subst (λ (x : ℕ). Joins h w found x (take (x * spot_width) (detect_of s th h w octave l0 l1 l2 l3 b).buffer)) n j))
      p.is-good room'

  -- A map that passes the detector's checks: what the detector and the join give of it.
  pub alone : Alone s th h w octave l0 l1 l2 l3 found
  alone = record { detects = detects s th h w octave l0 l1 l2 l3 p; joins = alone-joins }

-- ---- a scene

module _ (step : ℕ) (advances : 0 < step) (small : step ≤ tile_step) (m : Maps) (long : Long m) (few : m.frame.octave ≤ 5) (is-good : good m.set ≡ true)
    (clean : any_nan m.thresholds ≡ false) where
  -- The tile (i, j) by itself: the detector finds its records and the join sizes them, with nothing of the scene but the tile's own pixels.
  pub tile-alone : (i j : ℕ) → i < tiles_of step m.frame.rows → j < tiles_of step m.frame.cols
      → Alone m.set m.thresholds (length_of step m.frame.rows i) (length_of step m.frame.cols j) m.frame.octave
      (tile_copy step m.frame i j m.l0) (tile_copy step m.frame i j m.l1) (tile_copy step m.frame i j m.l2) (tile_copy step m.frame i j m.l3)
      (due (tile_maps step m i j))
  tile-alone i j p q =
      let down = on_side_lem step advances m.frame.rows i p in
      let right = on_side_lem step advances m.frame.cols j q in
      let h : ℕ = length_of step m.frame.rows i in
      let w : ℕ = length_of step m.frame.cols j in
      let copied : (l : List Float) → length l ≡ m.frame.rows * m.frame.cols → length (tile_copy step m.frame i j l) ≡ h * w =
      λ l e. copy_long l m.frame.rows m.frame.cols (start_of step i) (start_of step j) h w e down right in
      alone m.set m.thresholds h w m.frame.octave _ _ _ _
      (record {
        is-good = is-good;
        clean = clean;
        tall = tile-most step m.frame.rows i small;
        wide = tile-most step m.frame.cols j small;
        few = few;
        long0 = copied m.l0 long.long0;
        long1 = copied m.l1 long.long1;
        long2 = copied m.l2 long.long2;
        long3 = copied m.l3 long.long3;
      })

-- A scene's bytes are its tiles' own, row by row: each tile's are the join's sized records of what the detector found in it, with the tile's numbers in front of each.
pub scene_bytes : (step : ℕ) (m : Maps) (n : ℕ) → bytes_to step m n ≡ gather (λ k.
    let i = k / across step m.frame in
    let j = k % across step m.frame in
    with_numbers i j (length (due (tile_maps step m i j))) (sized_all false m.set (due (tile_maps step m i j)))) n
unfolding bytes_to tile_list
scene_bytes step m n =
    gather-same _ _ n (λ k h. sized_numbered m.set (k / across step m.frame) (k % across step m.frame) (due (tile_maps step m _ _)))
