-- What levels answers, and what it leaves in the four buffers, as one value of its input. Definitions only.
use Rattle.std.specs.Prelude.{ℕ, ◌*◌, not, ◌||◌, List, [], ◌∷◌, length, ltb, eqb, Float, Result, Ok, Err, ⊤}
use Rattle.tables.specs.declared.Set.{Set}
use Rattle.tables.specs.declared.Refusal.{Refusal}
use Rattle.tables.specs.declared.Refusal.TheVariants.{Level, Octave, Room}
use Rattle.tables.specs.Refusal.{Check, ◌when◌, first_of, sides_check, set_check}
use Rattle.grid.specs.Grid.{at_start}
use Rattle.kernels.specs.Kernel.{kernels_of}
use Rattle.blur.specs.Blur.{level_of}

-- 6: one of four buffers of n0 to n3 floats is shorter than n
abbrev pub room_check : ℕ → ℕ → ℕ → ℕ → ℕ → Check
room_check n0 n1 n2 n3 n = Room when (ltb n0 n || (ltb n1 n || (ltb n2 n || ltb n3 n)))

-- the checks of levels in its order, for a raw map of n floats and buffers of n0 to n3. 1: a side is too long; 2: the raw map is not rows*cols long;
-- 3: the octave is above 5; 4: the set is not good; 6: a level's buffer is shorter than rows*cols
unfoldable pub levels_checks : ℕ → ℕ → ℕ → ℕ → ℕ → ℕ → ℕ → ℕ → Set → List Check
levels_checks n n0 n1 n2 n3 rows cols octave s =
    sides_check rows cols ∷ (Level when not (eqb n (rows * cols))) ∷ (Octave when ltb 5 octave) ∷ set_check s ∷ room_check n0 n1 n2 n3 (rows * cols) ∷ []

-- an answer, and the four buffers after it
pub record Outcome : Type 0 where
  pub answer : Result ⊤ Refusal
  pub l0 : List Float
  pub l1 : List Float
  pub l2 : List Float
  pub l3 : List Float

-- these, given one by one
abbrev pub outcome : Result ⊤ Refusal → List Float → List Float → List Float → List Float → Outcome
outcome a l0 l1 l2 l3 = record { answer = a; l0 = l0; l1 = l1; l2 = l2; l3 = l3 }

-- level n of a raw map at the start of a buffer; what lies past it is kept
unfoldable pub placed : Set → ℕ → ℕ → ℕ → List Float → ℕ → List Float → List Float
placed s rows cols octave raw n out = at_start (level_of raw rows cols (kernels_of octave s.sigmas n)) out

-- a refusal writes nothing; otherwise the four levels are made
unfoldable pub made : Result ⊤ Refusal → Set → ℕ → ℕ → ℕ → List Float → List Float → List Float → List Float → List Float → Outcome
made (Err r) s rows cols octave raw l0 l1 l2 l3 = outcome (Err r) l0 l1 l2 l3
made (Ok _) s rows cols octave raw l0 l1 l2 l3 =
    outcome (Ok tt) (placed s rows cols octave raw 0 l0) (placed s rows cols octave raw 1 l1) (placed s rows cols octave raw 2 l2) (placed s rows cols octave raw 3 l3)

-- the whole of levels
unfoldable pub levels_of : Set → ℕ → ℕ → ℕ → List Float → List Float → List Float → List Float → List Float → Outcome
levels_of s rows cols octave raw l0 l1 l2 l3 =
    made (first_of (levels_checks (length raw) (length l0) (length l1) (length l2) (length l3) rows cols octave s)) s rows cols octave raw l0 l1 l2 l3
