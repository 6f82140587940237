-- Laws of one tile of a scene: its place, its copies, and what they list. Assumes nothing.
use Rattle.std.specs.Prelude.{Option, Some, None}
use Prim.Native.Nat.{ℕ, ◌+◌, ◌*◌, ◌≤◌}
use native.Mathlib.Nat.{mul-le-mul, mul-le-mul_right, mul_comm, le_trans}
use native.Mathlib.Omega.{arith}
use mathlib.Core.Path.{◌≡◌, refl, ap, ◌∙◌}
use mathlib.Core.Bool.{Bool, true, false, cond}
use mathlib.Core.List.{List}
use lib.ListN.{length, take, drop}
use lib.Seq.{sets, length-sets, take_at, length-take-le}
use lib.Dec.{leb}
use lib.Ieee.{Float}
use Rattle.tables.specs.declared.Set.{Set}
use Rattle.tables.specs.declared.Thresholds.{Thresholds}
use Rattle.record.specs.declared.Record.{Record}
use Rattle.words.proofs.Parts.{stored-front}
use Rattle.tiles.specs.Tiles.{tile_step, start_of, length_of}
use Rattle.tiles.specs.Copy.{tile_level, Cut}
use Rattle.tiles.proofs.TilesLaws.{on_side_lem, tile-most}
use Rattle.tiles.proofs.CopyLaws.{copy_long}
use Rattle.tile.specs.Numbered.{numbered_width, tile_bytes}
use Rattle.tile.specs.Tile.{Small, found_in, Filling, filling, fill_of, Fits}
use Rattle.scene_checks.specs.Checks.{tile_room, SceneIn}
use Rattle.turn.specs.Turn.{front, scene_maps, Turn, Cuts, Copied, Lent, TileAfter}

-- ---- the fronts of four slices

-- h by w is at most a whole tile
pub area_most : (h w : ℕ) → h ≤ 4096 → w ≤ 4096 → h * w ≤ 16777216
area_most h w p q = mul-le-mul {n₁ = h} {m₁ = w} {n₂ = 4096} {m₂ = 4096} p q

pub lent_small : {s : Set} {th : Thresholds} {h w octave : ℕ} (t0 t1 t2 t3 : List Float) → Lent s th h w octave (length t0) (length t1) (length t2) (length t3)
    → Small s th h w octave (length (take (h * w) t0)) (length (take (h * w) t1)) (length (take (h * w) t2)) (length (take (h * w) t3))
lent_small {s} {th} {h} {w} t0 t1 t2 t3 p = record {
  is-good = p.is-good;
  clean = p.clean;
  tall = p.tall;
  wide = p.wide;
  few = p.few;
  long0 = length-take-le (h * w) t0 p.fits0;
  long1 = length-take-le (h * w) t1 p.fits1;
  long2 = length-take-le (h * w) t2 p.fits2;
  long3 = length-take-le (h * w) t3 p.fits3;
}

-- a tile leaves the output as long as it was
fill_length : (s : Set) (i j : ℕ) (rs : List Record) (done : ℕ) (out out' : List ℕ) (r : Option ℕ) → filling r out' ≡ fill_of s i j rs done out → length out' ≡ length out
unfolding fill_of
fill_length s i j rs done out out' r e = ap (λ (x : Filling). length x.out) e ∙ go (leb ((done + length rs) * numbered_width) (length out))
  where
    go : (b : Bool) → length (cond b (filling (Some (done + length rs)) (sets out (done * numbered_width) (tile_bytes s i j rs))) (filling None out)).out ≡ length out
    go true = length-sets out (done * numbered_width) (tile_bytes s i j rs)
    go false = refl

-- ---- the tile's place

-- no tile is longer than the first
no_longer : (side k : ℕ) → length_of tile_step side k ≤ length_of tile_step side 0
unfolding length_of
no_longer side k = omega arith

module _ {s : Set} {th : Thresholds} {rows cols octave n0 n1 n2 n3 t0 t1 t2 t3 i j done room : ℕ}
    (p : SceneIn s th rows cols octave n0 n1 n2 n3 t0 t1 t2 t3) (q : Turn rows cols i j done room) where
  abbrev h : ℕ
  h = length_of tile_step rows i

  abbrev w : ℕ
  w = length_of tile_step cols j

  down-on : start_of tile_step i + h ≤ rows
  down-on = on_side_lem tile_step (omega arith) rows i q.down

  right-on : start_of tile_step j + w ≤ cols
  right-on = on_side_lem tile_step (omega arith) cols j q.right

  -- the tile begins on the scene
  pub starts : (i * tile_step ≤ rows) × (j * tile_step ≤ cols)
  starts = let a = down-on in let b = right-on in (omega arith, omega arith)

  -- its numbers are small
  pub few-down : i ≤ 16384
  few-down = let a = starts.0 in let b = p.rows-most in omega arith

  pub few-right : j ≤ 16384
  few-right = let a = starts.1 in let b = p.cols-most in omega arith

  area_fits : (t : ℕ) → tile_room tile_step rows cols ≤ t → h * w ≤ t
  area_fits t r = le_trans (mul-le-mul (no_longer rows i) (no_longer cols j)) r

  cut_one : (n t : ℕ) → n ≡ rows * cols → tile_room tile_step rows cols ≤ t → Cut n t rows (i * tile_step) (j * tile_step) h w
  cut_one n t e r =
      let a = down-on in
      let b = right-on in
      let c = p.cols-most in
      let x : (j * tile_step + w) * rows ≤ cols * rows = mul-le-mul_right rows b in
      let y : cols * rows ≡ rows * cols = mul_comm cols rows in
      let z : rows * cols ≤ 16384 * 16384 = mul-le-mul p.rows-most p.cols-most in
      let f = area_fits t r in
      let g : w * h ≡ h * w = mul_comm w h in
      record { tall = a; inside = omega arith; most = omega arith; fits = omega arith; wide = omega arith }

  -- its copies may be made, its place and sides given as the code finds them
  pub cuts : (r0 c0 h' w' : ℕ) → r0 ≡ i * tile_step → c0 ≡ j * tile_step → h' ≡ h → w' ≡ w → Cuts n0 n1 n2 n3 t0 t1 t2 t3 rows r0 c0 h' w'
  cuts r0 c0 h' w' e f eh ew = rw (e, f, eh, ew) record {
    cut0 = cut_one n0 t0 p.long0 p.room0;
    cut1 = cut_one n1 t1 p.long1 p.room1;
    cut2 = cut_one n2 t2 p.long2 p.room2;
    cut3 = cut_one n3 t3 p.long3 p.room3;
  }

  -- a slice after its copy: its front is the copy
  front_copy : (l t t' : List Float) → length l ≡ rows * cols → tile_room tile_step rows cols ≤ length t → t' ≡ sets t 0 (tile_level l rows (i * tile_step) (j * tile_step) h w)
      → (take (h * w) t' ≡ tile_level l rows (i * tile_step) (j * tile_step) h w) × (t' ≡ front (tile_level l rows (i * tile_step) (j * tile_step) h w) t) × (length t' ≡ length t)
  front_copy l t t' e r is =
      let c : List Float = tile_level l rows (i * tile_step) (j * tile_step) h w in
      let long : length c ≡ h * w = copy_long l rows cols (i * tile_step) (j * tile_step) h w e down-on right-on in
      let fits = area_fits (length t) r in
      let at : t' ≡ front c t = is ∙ stored-front c t (omega arith) in
      (ap (take (h * w)) at ∙ take_at c (drop (length c) t) (h * w) long, at, ap length is ∙ length-sets t 0 c)

  copy_fits : (t t' : ℕ) → tile_room tile_step rows cols ≤ t → t' ≡ t → h * w ≤ t'
  copy_fits t t' r e = let f = area_fits t r in omega arith

-- ---- the tile's turn

module _ (s : Set) (th : Thresholds) (rows cols octave : ℕ) (l0 l1 l2 l3 t0 t1 t2 t3 : List Float) (out : List ℕ) (i j done : ℕ)
    (p : SceneIn s th rows cols octave (length l0) (length l1) (length l2) (length l3) (length t0) (length t1) (length t2) (length t3))
    (q : Turn rows cols i j done (length out)) where
  -- the tile's numbers are u16
  pub numbers : Fits i j done (length out)
  numbers = let a = few-down p q in let b = few-right p q in record { down = omega arith; right = omega arith; lies = q.lies }

  -- what the slices are after the copies: a tile that may be judged, and what it then lists is the tile's own list
  pub record Ready (t0' t1' t2' t3' : List Float) (h' w' : ℕ) : Type 0 where
    pub lends : Lent s th h' w' octave (length t0') (length t1') (length t2') (length t3')
    pub tile-after : (r : Option ℕ) (out' : List ℕ)
        → filling r out' ≡ fill_of s i j (found_in s th h' w' octave (take (h' * w') t0') (take (h' * w') t1') (take (h' * w') t2') (take (h' * w') t3')) done out
        → TileAfter (scene_maps s th rows cols octave l0 l1 l2 l3) i j done t0 t1 t2 t3 t0' t1' t2' t3' out out' r

  ready_here : (t0' t1' t2' t3' : List Float)
      → Copied l0 l1 l2 l3 t0 t1 t2 t3 t0' t1' t2' t3' rows (i * tile_step) (j * tile_step) (length_of tile_step rows i) (length_of tile_step cols j)
      → Ready t0' t1' t2' t3' (length_of tile_step rows i) (length_of tile_step cols j)
  ready_here t0' t1' t2' t3' c =
      let f0 = front_copy p q l0 t0 t0' p.long0 p.room0 c.left0 in
      let f1 = front_copy p q l1 t1 t1' p.long1 p.room1 c.left1 in
      let f2 = front_copy p q l2 t2 t2' p.long2 p.room2 c.left2 in
      let f3 = front_copy p q l3 t3 t3' p.long3 p.room3 c.left3 in
      record {
        lends = record {
          is-good = p.is-good;
          clean = p.clean;
          tall = tile-most tile_step rows i (omega arith);
          wide = tile-most tile_step cols j (omega arith);
          few = p.few;
          fits0 = copy_fits p q (length t0) (length t0') p.room0 f0.2;
          fits1 = copy_fits p q (length t1) (length t1') p.room1 f1.2;
          fits2 = copy_fits p q (length t2) (length t2') p.room2 f2.2;
          fits3 = copy_fits p q (length t3) (length t3') p.room3 f3.2;
        };
        tile-after = λ r out' e. record {
          left0 = f0.1;
          left1 = f1.1;
          left2 = f2.1;
          left3 = f3.1;
          same0 = f0.2;
          same1 = f1.2;
          same2 = f2.2;
          same3 = f3.2;
          same_out = fill_length s i j _ done out out' r e;
          fills = rw (f0.0, f1.0, f2.0, f3.0) at e;
        };
      }

  pub ready : (r0 c0 h' w' : ℕ) → r0 ≡ i * tile_step → c0 ≡ j * tile_step → h' ≡ length_of tile_step rows i → w' ≡ length_of tile_step cols j → (t0' t1' t2' t3' : List Float)
      → Copied l0 l1 l2 l3 t0 t1 t2 t3 t0' t1' t2' t3' rows r0 c0 h' w' → Ready t0' t1' t2' t3' h' w'
  ready r0 c0 h' w' e f eh ew t0' t1' t2' t3' = rw (e, f, eh, ew) (ready_here t0' t1' t2' t3')
