-- What a scene is that passed its checks. Assumes nothing.
use Rattle.std.specs.Prelude.{Ok}
use Prim.Native.Nat.{ℕ, ◌*◌, ◌≤◌}
use native.Mathlib.Nat.{mul-le-mul}
use native.Mathlib.Omega.{arith}
use mathlib.Core.Path.{◌≡◌}
use mathlib.Core.Bool.{false, not}
use lib.Dec.{ltb, eqb}
use borrow.Author.Tests.{ltb-false, eqb-true, not-false}
use Rattle.float.proofs.Bools.{neither}
use Rattle.tables.specs.declared.Set.{Set}
use Rattle.tables.specs.declared.Thresholds.{Thresholds}
use Rattle.tables.specs.Set.{good}
use Rattle.tables.specs.Refusal.{first_of}
use Rattle.tables.proofs.RefusalLaws.{unless-fine}
use Rattle.tiles.specs.Tiles.{tile_step, length_of}
use Rattle.tiles.proofs.TilesLaws.{tile-most}
use Rattle.scene_checks.specs.Checks.{most_scene, scene_check, tile_room, scene_checks, SceneIn}

-- a scene whose sides are not refused has so many pixels at most
pub area_most : (rows cols : ℕ) → (scene_check rows cols).holds ≡ false → rows * cols ≤ 268435456
area_most rows cols h =
    let p = neither (ltb most_scene rows) (ltb most_scene cols) h in
    mul-le-mul {n₁ = rows} {m₁ = cols} {n₂ = most_scene} {m₂ = most_scene} (ltb-false _ _ p.0) (ltb-false _ _ p.1)

-- and so many has the first tile
pub first-most : (rows cols : ℕ) → tile_room tile_step rows cols ≤ 16777216
first-most rows cols =
    mul-le-mul {n₁ = length_of tile_step rows 0} {m₁ = length_of tile_step cols 0} {n₂ = 4096} {m₂ = 4096}
    (tile-most tile_step rows 0 (omega arith)) (tile-most tile_step cols 0 (omega arith))

module _ (n0 n1 n2 n3 rows cols octave : ℕ) (th : Thresholds) (s : Set) (t0 t1 t2 t3 : ℕ) where
  abbrev area : ℕ
  area = rows * cols

  abbrev need : ℕ
  need = tile_room tile_step rows cols

  pub opens : first_of (scene_checks tile_step n0 n1 n2 n3 rows cols octave th s t0 t1 t2 t3) ≡ Ok tt → SceneIn s th rows cols octave n0 n1 n2 n3 t0 t1 t2 t3
  unfolding scene_checks first_of
  opens h =
      let sides = unless-fine _ _ _ h in
      let levels = unless-fine _ _ _ sides.1 in
      let octaves = unless-fine _ _ _ levels.1 in
      let limits = unless-fine _ _ _ octaves.1 in
      let sets = unless-fine _ _ _ limits.1 in
      let rooms = unless-fine _ _ _ sets.1 in
      let side = neither (ltb most_scene rows) (ltb most_scene cols) sides.0 in
      let l0 = neither (not (eqb n0 area)) _ levels.0 in
      let l1 = neither (not (eqb n1 area)) _ l0.1 in
      let l2 = neither (not (eqb n2 area)) (not (eqb n3 area)) l1.1 in
      let r0 = neither (ltb t0 need) _ rooms.0 in
      let r1 = neither (ltb t1 need) _ r0.1 in
      let r2 = neither (ltb t2 need) (ltb t3 need) r1.1 in
      record {
        is-good = not-false (good s) sets.0;
        clean = limits.0;
        rows-most = ltb-false _ _ side.0;
        cols-most = ltb-false _ _ side.1;
        few = ltb-false _ _ octaves.0;
        long0 = eqb-true _ _ (not-false (eqb n0 area) l0.0);
        long1 = eqb-true _ _ (not-false (eqb n1 area) l1.0);
        long2 = eqb-true _ _ (not-false (eqb n2 area) l2.0);
        long3 = eqb-true _ _ (not-false (eqb n3 area) l2.1);
        room0 = ltb-false _ _ r0.0;
        room1 = ltb-false _ _ r1.0;
        room2 = ltb-false _ _ r2.0;
        room3 = ltb-false _ _ r2.1;
      }
