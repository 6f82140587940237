-- What a scene's face leaves of what a scene leaves.
use Rattle.std.specs.Prelude.{Result}
use Prim.Native.Nat.{ℕ}
use mathlib.Core.List.{List}
use mathlib.Core.Path.{◌≡◌, ap}
use lib.Ieee.{Float}
use Rattle.scene.specs.Scene.{After, after}
use Rattle.scene.specs.declared.Answer.{Answer}
use Rattle.face_scene.specs.Face.{scene_packed, scene_left, left_by}
use Rattle.tables.specs.declared.Refusal.{Refusal}

pub scene_left-by : {a : Result Answer Refusal} {t0 t1 t2 t3 : List Float} {out : List ℕ} {r v : ℕ} {d : After} → r ≡ (scene_packed a).number → v ≡ (scene_packed a).value
    → after a t0 t1 t2 t3 out ≡ d → scene_left r v t0 t1 t2 t3 out ≡ left_by d
scene_left-by p q e = rw (p, q) (ap left_by e)
