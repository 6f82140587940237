-- What a scene answers, and what it leaves in the five lent buffers, as one value of its input. Definitions only.
use Rattle.std.specs.Prelude.{ℕ, zero, suc, ◌/◌, ◌%◌, min, cond, List, length, leb, eqb, Float, Result, Ok, Err, ⊤}
use Rattle.tables.specs.declared.Set.{Set}
use Rattle.tables.specs.declared.Refusal.{Refusal}
use Rattle.tables.specs.declared.Thresholds.{Thresholds}
use Rattle.tables.specs.Refusal.{first_of}
use Rattle.pixel.specs.declared.Frame.{Frame}
use Rattle.samples.specs.Level.{Maps, maps_of}
use Rattle.tiles.specs.Tiles.{tile_step}
use Rattle.tiles.specs.Copy.{gather}
use Rattle.tile.specs.Numbered.{all_bytes}
use Rattle.scene_checks.specs.Checks.{scene_checks}
use Rattle.turn.specs.Tiled.{tile_copy, tile_list, across, tiles, first_tiles}
use Rattle.turn.specs.Turn.{front}
use Rattle.scene.specs.declared.Answer.{Answer}
use Rattle.scene.specs.declared.Answer.TheVariants.{Found, Full}

-- ---- the tiles' bytes and copies

-- the bytes of the first n tiles' records, one tile after the other, row by row
unfoldable pub bytes_to : ℕ → Maps → ℕ → List ℕ
bytes_to step m n = gather (λ k. all_bytes m.set (tile_list step m (k / across step m.frame) (k % across step m.frame))) n

-- what the copies of a level's first n tiles leave in a tile slice
unfoldable pub copies_to : ℕ → Frame → List Float → ℕ → List Float → List Float
copies_to step f l zero t = t
copies_to step f l (suc n) t = front (tile_copy step f (n / across step f) (n % across step f) l) (copies_to step f l n t)

-- how many of the first n tiles are written whole: the most whose records all fit
unfoldable pub whole_tiles : ℕ → Maps → ℕ → ℕ → ℕ
whole_tiles step m room zero = 0
whole_tiles step m room (suc n) = cond (leb (length (bytes_to step m (suc n))) room) (suc n) (whole_tiles step m room n)

-- ---- the whole

-- an answer, and the five buffers after it
pub record After : Type 0 where
  pub answer : Result Answer Refusal
  pub t0 : List Float
  pub t1 : List Float
  pub t2 : List Float
  pub t3 : List Float
  pub out : List ℕ

-- these six, given one by one
abbrev pub after : Result Answer Refusal → List Float → List Float → List Float → List Float → List ℕ → After
after a t0 t1 t2 t3 out = record { answer = a; t0 = t0; t1 = t1; t2 = t2; t3 = t3; out = out }

-- n tiles were written whole: the record count where these are all, else 6 with their number
unfoldable pub answer_of : ℕ → Maps → ℕ → Result Answer Refusal
answer_of step m n = cond (eqb n (tiles step m.frame)) (Ok (Found (length (first_tiles step m n)))) (Ok (Full n))

-- the copies that were made: one more than the tiles written, where one more is there
unfoldable pub copied_of : ℕ → Frame → ℕ → ℕ
copied_of step f n = min (suc n) (tiles step f)

-- what is left where n tiles were written whole
unfoldable pub left_of : ℕ → Maps → ℕ → List Float → List Float → List Float → List Float → List ℕ → After
left_of step m n t0 t1 t2 t3 out =
    after (answer_of step m n)
    (copies_to step m.frame m.l0 (copied_of step m.frame n) t0) (copies_to step m.frame m.l1 (copied_of step m.frame n) t1)
    (copies_to step m.frame m.l2 (copied_of step m.frame n) t2) (copies_to step m.frame m.l3 (copied_of step m.frame n) t3)
    (front (bytes_to step m n) out)

-- a refusal before the first tile leaves all five buffers as they were
unfoldable pub scene_by : Result ⊤ Refusal → ℕ → Maps → List Float → List Float → List Float → List Float → List ℕ → After
scene_by (Err why) step m t0 t1 t2 t3 out = after (Err why) t0 t1 t2 t3 out
scene_by (Ok _) step m t0 t1 t2 t3 out = left_of step m (whole_tiles step m (length out) (tiles step m.frame)) t0 t1 t2 t3 out

-- the whole of a scene
unfoldable pub scene_of : ℕ → Set → Thresholds → ℕ → ℕ → ℕ → List Float → List Float → List Float → List Float
    → List Float → List Float → List Float → List Float → List ℕ → After
scene_of step s th rows cols octave l0 l1 l2 l3 t0 t1 t2 t3 out =
    scene_by
    (first_of (scene_checks step (length l0) (length l1) (length l2) (length l3) rows cols octave th s (length t0) (length t1) (length t2) (length t3)))
    step (maps_of l0 l1 l2 l3 (record { rows = rows; cols = cols; octave = octave }) s th) t0 t1 t2 t3 out

-- what a scene leaves that passed its checks, with the code's step
abbrev pub left_all : Maps → List Float → List Float → List Float → List Float → List ℕ → After
left_all m t0 t1 t2 t3 out = left_of tile_step m (whole_tiles tile_step m (length out) (tiles tile_step m.frame)) t0 t1 t2 t3 out
