-- Laws of a scene's tiles, one after the other. Assumes nothing.
use Rattle.std.specs.Prelude.{Option, Some, None, Ok}
use Prim.Native.Nat.{ℕ, suc, ◌+◌, ◌-◌, ◌*◌, ◌/◌, ◌%◌, ◌≤◌, ◌<◌, min}
use native.Mathlib.Numerals.{add-one}
use native.Mathlib.Nat.{mul-le-mul, div-lt_iff_lt-mul, mod-lt}
use native.Mathlib.Omega.{arith}
use mathlib.Core.Path.{◌≡◌, refl, sym, ap, ◌∙◌, subst}
use mathlib.Core.Bool.{Bool, true, false, cond}
use mathlib.Core.List.{List, ◌++◌, map}
use lib.ListN.{length, drop, length-append, length-drop}
use lib.Seq.{sets}
use lib.Dec.{leb}
use lib.Ieee.{Float}
use borrow.Author.Tests.{leb-true, leb-false, eq-eqb, ne_eqb}
use Rattle.tables.specs.declared.Set.{Set}
use Rattle.tables.specs.declared.Thresholds.{Thresholds}
use Rattle.record.specs.declared.Record.{Record}
use Rattle.samples.specs.Level.{Maps}
use Rattle.detect.specs.Due.{due}
use Rattle.words.proofs.Stores.{sets-append}
use Rattle.words.proofs.Parts.{stored-front}
use Rattle.tiles.specs.Tiles.{tile_step, tiles_of}
use Rattle.tiles.specs.Copy.{gather}
use Rattle.tiles.proofs.TilesLaws.{some-tile}
use Rattle.tile.specs.Numbered.{numbered_width, numbered, tile_bytes}
use Rattle.tile.specs.Tile.{Filling, filling, fill_of}
use Rattle.tile.proofs.NumberedLaws.{length-tile_bytes, long-map}
use Rattle.scene.specs.declared.Answer.TheVariants as answer
use Rattle.scene_checks.specs.Checks.{SceneIn}
use Rattle.turn.specs.Tiled.{tile_copy, tile_maps, tile_list, across, tiles, first_tiles}
use Rattle.turn.specs.Turn.{front, TileAfter}
use Rattle.scene.specs.Scene.{bytes_to, copies_to, after, answer_of, copied_of, left_of, left_all}
use Rattle.scene.proofs.BytesLaws.{length-bytes_to, whole-all, whole_before}

-- ---- what a tile's answer tells

-- where its records had room
record Wrote (s : Set) (i j : ℕ) (rs : List Record) (done n : ℕ) (out out' : List ℕ) : Type 0 where
  count : n ≡ done + length rs
  room : (done + length rs) * numbered_width ≤ length out
  bytes : out' ≡ sets out (done * numbered_width) (tile_bytes s i j rs)

wrote : (s : Set) (i j : ℕ) (rs : List Record) (done n : ℕ) (out out' : List ℕ) → filling (Some n) out' ≡ fill_of s i j rs done out → Wrote s i j rs done n out out'
unfolding fill_of
wrote s i j rs done n out out' e = go (leb ((done + length rs) * numbered_width) (length out)) refl e
  where
    go : (b : Bool) → leb ((done + length rs) * numbered_width) (length out) ≡ b
        → filling (Some n) out' ≡ cond b (filling (Some (done + length rs)) (sets out (done * numbered_width) (tile_bytes s i j rs))) (filling None out) → Wrote s i j rs done n out out'
    go true f g =
        let a : Some n ≡ Some (done + length rs) = ap (λ (x : Filling). x.answer) g in
        record { count = cc; room = leb-true _ _ f; bytes = ap (λ (x : Filling). x.out) g }
    go false f g = let a : Some n ≡ None = ap (λ (x : Filling). x.answer) g in let z : ◌≡◌ {A = ℕ} 0 1 = cc in let y : ⊥ = omega arith in absurd y

no_room : (s : Set) (i j : ℕ) (rs : List Record) (done : ℕ) (out out' : List ℕ) → filling None out' ≡ fill_of s i j rs done out → (length out < (done + length rs) * numbered_width) × (out' ≡ out)
unfolding fill_of
no_room s i j rs done out out' e = go (leb ((done + length rs) * numbered_width) (length out)) refl e
  where
    go : (b : Bool) → leb ((done + length rs) * numbered_width) (length out) ≡ b
        → filling None out' ≡ cond b (filling (Some (done + length rs)) (sets out (done * numbered_width) (tile_bytes s i j rs))) (filling None out)
        → (length out < (done + length rs) * numbered_width) × (out' ≡ out)
    go true f g = let a : None ≡ Some (done + length rs) = ap (λ (x : Filling). x.answer) g in let z : ◌≡◌ {A = ℕ} 0 1 = cc in let y : ⊥ = omega arith in absurd y
    go false f g = (leb-false _ _ f, ap (λ (x : Filling). x.out) g)

-- bytes after bytes
front-next : (a s out : List ℕ) → length a + length s ≤ length out → sets (front a out) (length a) s ≡ front (a ++ s) out
front-next a s out h =
    let long : length (a ++ s) ≡ length a + length s = length-append a s in
    let e : 0 + length a ≡ length a = omega arith in
    ap (λ x. sets x (length a) s) (sym (stored-front a out (omega arith))) ∙ ap (λ x. sets (sets out 0 a) x s) (sym e) ∙ sym (sets-append a s out 0) ∙ stored-front (a ++ s) out (omega arith)

-- after k tiles
pub record After-tiles (m : Maps) (t0 t1 t2 t3 : List Float) (out : List ℕ) (k done : ℕ) (t0' t1' t2' t3' : List Float) (out' : List ℕ) : Type 0 where
  pub some : k ≤ tiles tile_step m.frame
  pub listed : done ≡ length (first_tiles tile_step m k)
  pub fits : length (bytes_to tile_step m k) ≤ length out
  pub left0 : t0' ≡ copies_to tile_step m.frame m.l0 k t0
  pub left1 : t1' ≡ copies_to tile_step m.frame m.l1 k t1
  pub left2 : t2' ≡ copies_to tile_step m.frame m.l2 k t2
  pub left3 : t3' ≡ copies_to tile_step m.frame m.l3 k t3
  pub written : out' ≡ front (bytes_to tile_step m k) out
  pub same0 : length t0' ≡ length t0
  pub same1 : length t1' ≡ length t1
  pub same2 : length t2' ≡ length t2
  pub same3 : length t3' ≡ length t3
  pub same_out : length out' ≡ length out

module _ (m : Maps) (t0 t1 t2 t3 : List Float) (out : List ℕ) where
  abbrev total : ℕ
  total = tiles tile_step m.frame

  abbrev wide : ℕ
  wide = across tile_step m.frame

  pub start-tiles : After-tiles m t0 t1 t2 t3 out 0 0 t0 t1 t2 t3 out
  unfolding first_tiles bytes_to gather copies_to
  start-tiles = record { some = omega arith; listed = refl; fits = omega arith; left0 = refl; left1 = refl; left2 = refl; left3 = refl; written = refl; same0 = refl; same1 = refl; same2 = refl; same3 = refl; same_out = refl }

  -- the numbers of tile k
  pub turn_at : (k : ℕ) → k < total → (k / wide < tiles_of tile_step m.frame.rows) × (k % wide < tiles_of tile_step m.frame.cols)
  turn_at k b =
      ((div-lt_iff_lt-mul {k = wide} {x = k} {y = tiles_of tile_step m.frame.rows} (some-tile tile_step m.frame.cols)).1 b, mod-lt k (some-tile tile_step m.frame.cols))

  module _ (k done : ℕ) (t0' t1' t2' t3' : List Float) (out' : List ℕ) (g : After-tiles m t0 t1 t2 t3 out k done t0' t1' t2' t3' out') (b : k < total) where
    long-out : length out' ≡ length out
    long-out =
        let f = g.fits in
        ap length g.written ∙ length-append (bytes_to tile_step m k) (drop (length (bytes_to tile_step m k)) out) ∙ simp length-drop (omega arith)

    pub lies : done * numbered_width ≤ length out'
    lies = let f = g.fits in omega (arith, long-out, length-bytes_to tile_step m k, g.listed)

    module _ (u0 u1 u2 u3 : List Float) (out'' : List ℕ) (r : Option ℕ) (a : TileAfter m (k / wide) (k % wide) done t0' t1' t2' t3' u0 u1 u2 u3 out' out'' r) where
      abbrev rs : List Record
      rs = due (tile_maps tile_step m (k / wide) (k % wide))

      -- the tile's bytes follow the others
      next-bytes : bytes_to tile_step m (suc k) ≡ bytes_to tile_step m k ++ tile_bytes m.set (k / wide) (k % wide) rs
      unfolding bytes_to gather tile_list
      next-bytes = refl

      next-count : length (first_tiles tile_step m (suc k)) ≡ done + length rs
      unfolding first_tiles gather tile_list
      next-count =
          length-append (first_tiles tile_step m k) (map (numbered (k / wide) (k % wide)) rs) ∙ ap (λ x. length (first_tiles tile_step m k) + x) (long-map (numbered (k / wide) (k % wide)) rs)
          ∙ ap (λ x. x + length rs) (sym g.listed)

      -- all of the tile's records have room exactly where the bytes of one tile more fit
      room-is : length (bytes_to tile_step m (suc k)) ≡ (done + length rs) * numbered_width
      room-is = length-bytes_to tile_step m (suc k) ∙ ap (λ x. x * numbered_width) next-count

      pub next-tiles : (n : ℕ) → r ≡ Some n → After-tiles m t0 t1 t2 t3 out (k + 1) n u0 u1 u2 u3 out''
      unfolding copies_to
      next-tiles n e =
          let x = wrote m.set (k / wide) (k % wide) rs done n out' out'' (rw e at a.fills) in
          let s : List ℕ = tile_bytes m.set (k / wide) (k % wide) rs in
          let old = length-bytes_to tile_step m k in
          let at : done * numbered_width ≡ length (bytes_to tile_step m k) = omega (arith, g.listed) in
          let size : length s ≡ length rs * numbered_width = length-tile_bytes m.set (k / wide) (k % wide) rs in
          let long = long-out in
          let room = x.room in
          rw add-one record {
            some = b;
            listed = x.count ∙ sym next-count;
            fits = rw room-is (omega arith);
            left0 = a.left0 ∙ ap (front (tile_copy tile_step m.frame (k / wide) (k % wide) m.l0)) g.left0;
            left1 = a.left1 ∙ ap (front (tile_copy tile_step m.frame (k / wide) (k % wide) m.l1)) g.left1;
            left2 = a.left2 ∙ ap (front (tile_copy tile_step m.frame (k / wide) (k % wide) m.l2)) g.left2;
            left3 = a.left3 ∙ ap (front (tile_copy tile_step m.frame (k / wide) (k % wide) m.l3)) g.left3;
            written =
                x.bytes ∙ ap (λ y. sets y (done * numbered_width) s) g.written ∙ ap (λ y. sets (front (bytes_to tile_step m k) out) y s) at
                ∙ front-next (bytes_to tile_step m k) s out (omega arith) ∙ ap (λ y. front y out) (sym next-bytes);
            same0 = a.same0 ∙ g.same0;
            same1 = a.same1 ∙ g.same1;
            same2 = a.same2 ∙ g.same2;
            same3 = a.same3 ∙ g.same3;
            same_out = a.same_out ∙ g.same_out;
          }

      pub full-tiles : r ≡ None → after (Ok (answer.Full k)) u0 u1 u2 u3 out'' ≡ left_all m t0 t1 t2 t3 out
      unfolding left_of answer_of copied_of copies_to
      full-tiles e =
          let x = no_room m.set (k / wide) (k % wide) rs done out' out'' (rw e at a.fills) in
          let long = long-out in
          let over : length out < length (bytes_to tile_step m (suc k)) = rw room-is (omega (arith, x.0)) in
          let n = whole_before tile_step m (length out) total k b g.fits over in
          let c : min (suc k) total ≡ suc k = omega arith in
          rw (n, ne_eqb k total (λ z. let y : ⊥ = omega arith in y), c, a.left0, a.left1, a.left2, a.left3, x.1, g.written, g.left0, g.left1, g.left2, g.left3)

    -- the same, with the number of tiles across as the code has it
    pub next-with : (x : ℕ) → x ≡ wide → (u0 u1 u2 u3 : List Float) (out'' : List ℕ) (r : Option ℕ)
        → TileAfter m (k / x) (k % x) done t0' t1' t2' t3' u0 u1 u2 u3 out' out'' r → (n : ℕ) → r ≡ Some n → After-tiles m t0 t1 t2 t3 out (k + 1) n u0 u1 u2 u3 out''
    next-with x e u0 u1 u2 u3 out'' r a =
        next-tiles u0 u1 u2 u3 out'' r (subst (λ (y : ℕ). TileAfter m (k / y) (k % y) done t0' t1' t2' t3' u0 u1 u2 u3 out' out'' r) e a)

    pub full-with : (x : ℕ) → x ≡ wide → (u0 u1 u2 u3 : List Float) (out'' : List ℕ) (r : Option ℕ)
        → TileAfter m (k / x) (k % x) done t0' t1' t2' t3' u0 u1 u2 u3 out' out'' r → r ≡ None → after (Ok (answer.Full k)) u0 u1 u2 u3 out'' ≡ left_all m t0 t1 t2 t3 out
    full-with x e u0 u1 u2 u3 out'' r a =
        full-tiles u0 u1 u2 u3 out'' r (subst (λ (y : ℕ). TileAfter m (k / y) (k % y) done t0' t1' t2' t3' u0 u1 u2 u3 out' out'' r) e a)

  pub all-tiles : (done : ℕ) (t0' t1' t2' t3' : List Float) (out' : List ℕ) → After-tiles m t0 t1 t2 t3 out total done t0' t1' t2' t3' out'
      → after (Ok (answer.Found done)) t0' t1' t2' t3' out' ≡ left_all m t0 t1 t2 t3 out
  unfolding left_of answer_of copied_of
  all-tiles done t0' t1' t2' t3' out' g =
      let n = whole-all tile_step m (length out) total g.fits in
      let c : min (suc total) total ≡ total = omega arith in
      let d = g.listed in
      let x0 = g.left0 in
      let x1 = g.left1 in
      let x2 = g.left2 in
      let x3 = g.left3 in
      let o = g.written in
      rw (n, eq-eqb total total refl, c) (cc)

-- ---- a turn of the loop

pub few-tiles : (side : ℕ) → side ≤ 16384 → tiles_of tile_step side ≤ 5
unfolding tiles_of
few-tiles side h = omega arith

pub few_products : (rows cols : ℕ) → rows ≤ 16384 → cols ≤ 16384 → tiles_of tile_step rows * tiles_of tile_step cols ≤ 25
few_products rows cols p q = mul-le-mul {n₁ = tiles_of tile_step rows} {m₁ = tiles_of tile_step cols} {n₂ = 5} {m₂ = 5} (few-tiles rows p) (few-tiles cols q)

pub still_in : {s : Set} {th : Thresholds} {rows cols octave n0 n1 n2 n3 a0 a1 a2 a3 b0 b1 b2 b3 : ℕ} → SceneIn s th rows cols octave n0 n1 n2 n3 a0 a1 a2 a3 → b0 ≡ a0 → b1 ≡ a1 → b2 ≡ a2 → b3 ≡ a3
    → SceneIn s th rows cols octave n0 n1 n2 n3 b0 b1 b2 b3
still_in p e0 e1 e2 e3 =
    let r0 = p.room0 in
    let r1 = p.room1 in
    let r2 = p.room2 in
    let r3 = p.room3 in
    record {
      is-good = p.is-good;
      clean = p.clean;
      rows-most = p.rows-most;
      cols-most = p.cols-most;
      few = p.few;
      long0 = p.long0;
      long1 = p.long1;
      long2 = p.long2;
      long3 = p.long3;
      room0 = omega arith;
      room1 = omega arith;
      room2 = omega arith;
      room3 = omega arith;
    }
