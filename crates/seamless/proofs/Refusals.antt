-- Refusals of a scene before its first tile: the first check that holds, by its place; and nothing written. Assumes nothing.
use Rattle.std.specs.Prelude.{Result, Ok, Err, ⊤}
use Prim.Native.Nat.{ℕ}
use native.Mathlib.Omega.{arith}
use mathlib.Core.Path.{◌≡◌}
use mathlib.Core.Bool.{Bool, true, false, cond}
use mathlib.Core.List.{List}
use lib.ListN.{length}
use lib.Dec.{eqb}
use lib.Ieee.{Float}
use Rattle.tables.specs.declared.Set.{Set}
use Rattle.tables.specs.declared.Thresholds.{Thresholds}
use Rattle.tables.specs.declared.Refusal.{Refusal}
use Rattle.tables.specs.Refusal.{Check, said_at, First}
use Rattle.tables.proofs.RefusalLaws as laws
use Rattle.samples.specs.Level.{Maps}
use Rattle.scene_checks.specs.Checks.{scene_checks}
use Rattle.turn.specs.Tiled.{tiles, first_tiles}
use Rattle.turn.specs.Turn.{scene_maps}
use Rattle.scene.specs.Scene.{After, after, answer_of, left_of, scene_by, scene_of, left_all}
use Rattle.scene.specs.declared.Answer.TheVariants.{Found, Full}
use Rattle.tiles.specs.Tiles.{tile_step}

-- ---- what an answer tells of the checks

not-refused : (m : Maps) (k : ℕ) (r : Refusal) → answer_of tile_step m k ≡ Err r → ⊥
unfolding answer_of
not-refused m k r h = go (eqb k (tiles tile_step m.frame)) h
  where
    go : (b : Bool) → cond b (Ok (Found (length (first_tiles tile_step m k)))) (Ok (Full k)) ≡ Err r → ⊥
    go true g = let z : ◌≡◌ {A = ℕ} 0 1 = cc in omega arith
    go false g = let z : ◌≡◌ {A = ℕ} 0 1 = cc in omega arith

answer-refused : (w : Result ⊤ Refusal) (m : Maps) (t0 t1 t2 t3 : List Float) (out : List ℕ) (r : Refusal) → (scene_by w tile_step m t0 t1 t2 t3 out).answer ≡ Err r → w ≡ Err r
unfolding scene_by left_of
answer-refused (Err q) m t0 t1 t2 t3 out r e = cc
answer-refused (Ok _) m t0 t1 t2 t3 out r e = absurd (not-refused m _ r e)

-- ---- the refusals of a call

module _ (s : Set) (th : Thresholds) (rows cols octave : ℕ) (l0 l1 l2 l3 t0 t1 t2 t3 : List Float) (out : List ℕ) where
  abbrev maps : Maps
  maps = scene_maps s th rows cols octave l0 l1 l2 l3

  -- the checks of this call
  abbrev checks : List Check
  checks = scene_checks tile_step (length l0) (length l1) (length l2) (length l3) rows cols octave th s (length t0) (length t1) (length t2) (length t3)

  abbrev call : After
  call = scene_of tile_step s th rows cols octave l0 l1 l2 l3 t0 t1 t2 t3 out

  -- a refusal that is answered is that of the first check that holds
  pub refused-first : (r : Refusal) → call.answer ≡ Err r → First checks r
  unfolding scene_of
  refused-first r e = laws.first-refused checks r (answer-refused _ maps t0 t1 t2 t3 out r e)

  -- and the first that holds is answered, and all five buffers are left as they were
  pub first_answered : (r : Refusal) → First checks r → call ≡ after (Err r) t0 t1 t2 t3 out
  unfolding scene_of scene_by
  first_answered r f = rw (laws.refused-first checks r f)

  -- where no check holds the tiles are gone through
  pub none-refused : ((k : ℕ) → said_at checks k ≡ Ok tt) → call ≡ left_all maps t0 t1 t2 t3 out
  unfolding scene_of scene_by
  none-refused h = rw (laws.fine-first checks h)
