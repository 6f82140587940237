-- What a scene's face answers, and what it leaves in the five buffers, as one value of its input. Definitions only.
use Rattle.std.specs.Prelude.{ℕ, List, Float, Result, Ok, Err}
use Rattle.tables.specs.declared.Thresholds.{Thresholds}
use Rattle.tables.specs.declared.Refusal.{Refusal}
use Rattle.tables.specs.declared.Refusal.TheVariants.{Room}
use Rattle.tables.specs.Refusal.{number, value, read_or_blank}
use Rattle.face.specs.Face.{Packed}
use Rattle.tiles.specs.Tiles.{tile_step}
use Rattle.scene.specs.Scene.{After, scene_of}
use Rattle.scene.specs.declared.Answer.{Answer}
use Rattle.scene.specs.declared.Answer.TheVariants.{Found, Full}

-- 0 and the count, 6 and the whole tiles written, or the refusal's number and the value that goes with it
unfoldable pub scene_packed : Result Answer Refusal → Packed
scene_packed (Ok (Found n)) = record { number = 0; value = n }
scene_packed (Ok (Full n)) = record { number = number Room; value = n }
scene_packed (Err w) = record { number = number w; value = value w }

-- what a call leaves: its number, its value, and the five buffers
pub record SceneLeft : Type 0 where
  pub number : ℕ
  pub value : ℕ
  pub t0 : List Float
  pub t1 : List Float
  pub t2 : List Float
  pub t3 : List Float
  pub out : List ℕ

-- these seven, given one by one
abbrev pub scene_left : ℕ → ℕ → List Float → List Float → List Float → List Float → List ℕ → SceneLeft
scene_left n v t0 t1 t2 t3 out = record { number = n; value = v; t0 = t0; t1 = t1; t2 = t2; t3 = t3; out = out }

-- what a scene leaves
abbrev pub left_by : After → SceneLeft
left_by a = scene_left (scene_packed a.answer).number (scene_packed a.answer).value a.t0 a.t1 a.t2 a.t3 a.out

-- a scene under the set that the record holds; a refused record gives the set of zeros, which is not good
unfoldable pub scene_face : List ℕ → Thresholds → ℕ → ℕ → ℕ → List Float → List Float → List Float → List Float
    → List Float → List Float → List Float → List Float → List ℕ → SceneLeft
scene_face set th rows cols octave l0 l1 l2 l3 t0 t1 t2 t3 out =
    left_by (scene_of tile_step (read_or_blank set) th rows cols octave l0 l1 l2 l3 t0 t1 t2 t3 out)
