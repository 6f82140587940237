-- Demand 3 over two calls of a scene. Assumes nothing.
use Rattle.std.specs.Prelude.{Ok}
use Prim.Native.Nat.{ℕ}
use native.Mathlib.Omega.{arith}
use mathlib.Core.Path.{◌≡◌, ap, ◌∙◌}
use mathlib.Core.Bool.{Bool}
use mathlib.Core.List.{List}
use lib.ListN.{length}
use lib.Ieee.{Float}
use Rattle.tables.specs.declared.Set.{Set}
use Rattle.tables.specs.declared.Thresholds.{Thresholds}
use Rattle.samples.specs.Level.{Maps}
use Rattle.demands.specs.TwoMaps.{Lossy}
use Rattle.tiles.specs.Tiles.{tile_step}
use Rattle.tile.specs.Numbered.{Numbered, all_bytes}
use Rattle.turn.specs.Tiled.{scene_list}
use Rattle.turn.specs.Turn.{front, scene_maps}
use Rattle.scene.specs.Scene.{scene_of}
use Rattle.scene.specs.declared.Answer.TheVariants.{Found}
use Rattle.seamless.specs.Claims.{keep_if, spared_in}
use Rattle.seamless.proofs.Lost.{scenes_two}
use Rattle.seamless.proofs.Answered.{answered, answered_long}

module _ (lost : ℕ → ℕ → Bool) (s : Set) (th : Thresholds) (rows cols octave : ℕ) (a0 a1 a2 a3 b0 b1 b2 b3 t0 t1 t2 t3 u0 u1 u2 u3 : List Float) (out out' : List ℕ) where
  abbrev A : Maps
  A = scene_maps s th rows cols octave a0 a1 a2 a3

  abbrev B : Maps
  B = scene_maps s th rows cols octave b0 b1 b2 b3

  -- the first scene's list, less each spot with a lost pixel among its 21 scene pixels
  abbrev pub kept : List Numbered
  kept = keep_if (spared_in tile_step A.frame lost) (scene_list tile_step A)

  -- Of two scenes, the second the first but for lost pixels, both answered a count: the second lists exactly those of the first's records that are spared, in their order,
  -- bit for bit, and nothing else is changed in its output.
  pub two_calls : (n n' : ℕ) → (scene_of tile_step s th rows cols octave a0 a1 a2 a3 t0 t1 t2 t3 out).answer ≡ Ok (Found n)
      → (scene_of tile_step s th rows cols octave b0 b1 b2 b3 u0 u1 u2 u3 out').answer ≡ Ok (Found n') → Lossy lost A B
      → (n' ≡ length kept) × ((scene_of tile_step s th rows cols octave b0 b1 b2 b3 u0 u1 u2 u3 out').out ≡ front (all_bytes s kept) out')
  two_calls n n' h h' lossy =
      let long-a = answered_long s th rows cols octave a0 a1 a2 a3 t0 t1 t2 t3 out n h in
      let long-b = answered_long s th rows cols octave b0 b1 b2 b3 u0 u1 u2 u3 out' n' h' in
      let is = scenes_two tile_step (omega arith) lost A.frame s th a0 a1 a2 a3 b0 b1 b2 b3 long-a long-b lossy in
      let listing = answered s th rows cols octave b0 b1 b2 b3 u0 u1 u2 u3 out' n' h' in
      (listing.count ∙ ap length is, listing.bytes ∙ ap (λ x. front (all_bytes s x) out') is)
