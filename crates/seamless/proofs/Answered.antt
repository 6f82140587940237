-- What a call of a scene has listed and left: all of it where it answers a record count, the whole first tiles where it answers 6 with their number. Assumes nothing.
use Rattle.std.specs.Prelude.{Result, Ok, Err, ⊤}
use Prim.Native.Nat.{ℕ, zero, suc, ◌≤◌, ◌<◌}
use native.Mathlib.Nat.{eq-or-lt_of_le}
use native.Mathlib.Omega.{arith}
use mathlib.Core.Path.{◌≡◌, refl, sym, ap, ◌∙◌}
use mathlib.Core.Bool.{Bool, true, false, cond}
use mathlib.Core.Logic.{⊎_elim}
use mathlib.Core.List.{List}
use lib.ListN.{length}
use lib.Dec.{eqb, leb}
use lib.Ieee.{Float}
use borrow.Author.Tests.{eqb-true, eqb-false, leb-false}
use Rattle.tables.specs.declared.Set.{Set}
use Rattle.tables.specs.declared.Refusal.{Refusal}
use Rattle.tables.specs.declared.Thresholds.{Thresholds}
use Rattle.tables.specs.Refusal.{first_of}
use Rattle.samples.specs.Level.{Maps}
use Rattle.tiles.specs.Tiles.{tile_step}
use Rattle.scene_checks.specs.Checks.{scene_checks, SceneIn}
use Rattle.scene_checks.proofs.ChecksLaws.{opens}
use Rattle.turn.specs.Tiled.{tiles, first_tiles}
use Rattle.turn.specs.Turn.{front, scene_maps}
use Rattle.scene.specs.Scene.{bytes_to, whole_tiles, After, answer_of, left_of, scene_by, scene_of, left_all}
use Rattle.scene.proofs.BytesLaws.{bytes_of_tiles, whole-fits}
use Rattle.scene.specs.declared.Answer.{Answer}
use Rattle.scene.specs.declared.Answer.TheVariants.{Found, Full}
use Rattle.seamless.specs.Claims.{Long}
use Rattle.seamless.specs.Alone.{Listing, Partly}
use Rattle.seamless.proofs.Once.{scene_bijection}

ne-lt : {a b : ℕ} → a ≤ b → (a ≡ b → ⊥) → a < b
ne-lt {a} {b} p q = ⊎_elim (λ e. absurd (q e)) (λ l. l) (eq-or-lt_of_le p)

-- ---- what the answer tells of the tiles written

module _ (m : Maps) (k : ℕ) where
  all_told : (n : ℕ) → answer_of tile_step m k ≡ Ok (Found n) → (k ≡ tiles tile_step m.frame) × (n ≡ length (first_tiles tile_step m k))
  unfolding answer_of
  all_told n h = go (eqb k (tiles tile_step m.frame)) refl h
    where
      go : (b : Bool) → eqb k (tiles tile_step m.frame) ≡ b → ◌≡◌ {A = Result Answer Refusal} (cond b (Ok (Found (length (first_tiles tile_step m k)))) (Ok (Full k))) (Ok (Found n))
          → (k ≡ tiles tile_step m.frame) × (n ≡ length (first_tiles tile_step m k))
      go true e g = (eqb-true _ _ e, cc)
      go false e g = let z : ◌≡◌ {A = ℕ} 0 1 = cc in let y : ⊥ = omega arith in absurd y

  full-told : (n : ℕ) → answer_of tile_step m k ≡ Ok (Full n) → (n ≡ k) × (k ≡ tiles tile_step m.frame → ⊥)
  unfolding answer_of
  full-told n h = go (eqb k (tiles tile_step m.frame)) refl h
    where
      go : (b : Bool) → eqb k (tiles tile_step m.frame) ≡ b → ◌≡◌ {A = Result Answer Refusal} (cond b (Ok (Found (length (first_tiles tile_step m k)))) (Ok (Full k))) (Ok (Full n))
          → (n ≡ k) × (k ≡ tiles tile_step m.frame → ⊥)
      go true e g = let z : ◌≡◌ {A = ℕ} 0 1 = cc in let y : ⊥ = omega arith in absurd y
      go false e g = (cc, eqb-false _ _ e)

-- the tiles that are written whole are at most all, and where they are fewer one more has no room
whole-most : (m : Maps) (room n : ℕ) → whole_tiles tile_step m room n ≤ n
unfolding whole_tiles
whole-most m room zero = omega arith
whole-most m room (suc n) = go (leb (length (bytes_to tile_step m (suc n))) room) (whole-most m room n)
  where
    go : (b : Bool) → whole_tiles tile_step m room n ≤ n → cond b (suc n) (whole_tiles tile_step m room n) ≤ suc n
    go true h = omega arith
    go false h = omega arith

-- one tile more than are written has no room, where one more is there: what is known of n tiles, and whether tile n fits
short-by : (m : Maps) (room n : ℕ) (b : Bool) → leb (length (bytes_to tile_step m (suc n))) room ≡ b
    → (whole_tiles tile_step m room n < n → room < length (bytes_to tile_step m (suc (whole_tiles tile_step m room n))))
    → cond b (suc n) (whole_tiles tile_step m room n) < suc n → room < length (bytes_to tile_step m (suc (cond b (suc n) (whole_tiles tile_step m room n))))
short-by m room n true e before h = let z : ⊥ = omega arith in absurd z
short-by m room n false e before h = ⊎_elim (λ all. rw all (leb-false _ _ e)) before (eq-or-lt_of_le (whole-most m room n))

whole-short : (m : Maps) (room n : ℕ) → whole_tiles tile_step m room n < n → room < length (bytes_to tile_step m (suc (whole_tiles tile_step m room n)))
unfolding whole_tiles
whole-short m room zero h = let z : ⊥ = omega arith in absurd z
whole-short m room (suc n) h = short-by m room n (leb (length (bytes_to tile_step m (suc n))) room) refl (whole-short m room n) h

-- ---- a call

-- an answer of a call that a check refused is that refusal
by_checks : (w : Result ⊤ Refusal) (m : Maps) (t0 t1 t2 t3 : List Float) (out : List ℕ) (n : ℕ) → (scene_by w tile_step m t0 t1 t2 t3 out).answer ≡ Ok (Found n) → w ≡ Ok tt
unfolding scene_by
by_checks (Err why) m t0 t1 t2 t3 out n h = cc
by_checks (Ok _) m t0 t1 t2 t3 out n h = refl

by_checks_full : (w : Result ⊤ Refusal) (m : Maps) (t0 t1 t2 t3 : List Float) (out : List ℕ) (n : ℕ) → (scene_by w tile_step m t0 t1 t2 t3 out).answer ≡ Ok (Full n) → w ≡ Ok tt
unfolding scene_by
by_checks_full (Err why) m t0 t1 t2 t3 out n h = cc
by_checks_full (Ok _) m t0 t1 t2 t3 out n h = refl

module _ (s : Set) (th : Thresholds) (rows cols octave : ℕ) (l0 l1 l2 l3 t0 t1 t2 t3 : List Float) (out : List ℕ) where
  abbrev maps : Maps
  maps = scene_maps s th rows cols octave l0 l1 l2 l3

  abbrev call : After
  call = scene_of tile_step s th rows cols octave l0 l1 l2 l3 t0 t1 t2 t3 out

  abbrev checked : Result ⊤ Refusal
  checked = first_of (scene_checks tile_step (length l0) (length l1) (length l2) (length l3) rows cols octave th s (length t0) (length t1) (length t2) (length t3))

  abbrev written : ℕ
  written = whole_tiles tile_step maps (length out) (tiles tile_step maps.frame)

  passed : checked ≡ Ok tt → SceneIn s th rows cols octave (length l0) (length l1) (length l2) (length l3) (length t0) (length t1) (length t2) (length t3)
  passed h = opens (length l0) (length l1) (length l2) (length l3) rows cols octave th s (length t0) (length t1) (length t2) (length t3) h

  goes_on : checked ≡ Ok tt → call ≡ left_all maps t0 t1 t2 t3 out
  unfolding scene_of scene_by
  goes_on h = rw h

  found-fine : (n : ℕ) → call.answer ≡ Ok (Found n) → checked ≡ Ok tt
  unfolding scene_of
  found-fine n h = by_checks checked maps t0 t1 t2 t3 out n h

  long_of : checked ≡ Ok tt → Long maps
  long_of h = let p = passed h in record { long0 = p.long0; long1 = p.long1; long2 = p.long2; long3 = p.long3 }

  -- the levels of a scene that answers a count have its size
  pub answered_long : (n : ℕ) → call.answer ≡ Ok (Found n) → Long maps
  answered_long n h = long_of (found-fine n h)

  -- A scene that answers a count lists every record of every tile, and these tell what the untiled scene lists, each scene pixel at each polarity once.
  pub answered : (n : ℕ) → call.answer ≡ Ok (Found n) → Listing maps out n call
  answered n h =
      let fine = found-fine n h in
      let p = passed fine in
      let a = p.rows-most in
      let b = p.cols-most in
      let is = goes_on fine in
      let k = all_told maps written n (unfold left_of in sym (ap (λ (x : After). x.answer) is) ∙ h) in
      record {
        count = k.1 ∙ ap (λ x. length (first_tiles tile_step maps x)) k.0;
        bytes =
            unfold left_of in
            ap (λ (x : After). x.out) is ∙ ap (λ x. front (bytes_to tile_step maps x) out) k.0
            ∙ ap (λ x. front x out) (bytes_of_tiles tile_step maps (tiles tile_step maps.frame));
        told = scene_bijection tile_step (omega arith) maps (long_of fine) (record { rows-most = omega arith; cols-most = omega arith });
      }

  -- A scene that answers 6 with k tiles wrote exactly the k first, whole.
  pub partly : (k : ℕ) → call.answer ≡ Ok (Full k) → Partly maps out k call
  partly k h =
      let fine : checked ≡ Ok tt = unfold scene_of in by_checks_full checked maps t0 t1 t2 t3 out k h in
      let is = goes_on fine in
      let told = full-told maps written k (unfold left_of in sym (ap (λ (x : After). x.answer) is) ∙ h) in
      let most = whole-most maps (length out) (tiles tile_step maps.frame) in
      let less : written < tiles tile_step maps.frame = ne-lt most told.1 in
      rw told.0 record {
        more = less;
        bytes = unfold left_of in ap (λ (x : After). x.out) is;
        room = whole-fits tile_step maps (length out) (tiles tile_step maps.frame);
        short = whole-short maps (length out) (tiles tile_step maps.frame) less;
      }
