-- What a store stands for: a simple list of optional spots. No bytes here but a new record's. Definitions only.
use Rattle.std.specs.Prelude.{ℕ, suc, ◌-◌, Bool, true, false, not, cond, ◌&&◌, List, [], ◌∷◌, ◌++◌, map, ltb, leb, eqb, length, get_or, set, replicate, Ok, Err, ⊤}
use Rattle.std.specs.Prelude as std
use Rattle.std.proofs.Math.Option.{Option, none, some}
use Rattle.tables.specs.declared.Refusal.TheVariants.{Records, Room, NoSpot}
use Rattle.tables.specs.declared.Refusal.{Refusal}
use Rattle.tables.specs.Refusal.{Check, ◌when◌, first_of, sides_check}
use Rattle.record.specs.Layout.{spot_width}
use Rattle.store.specs.Store.{Call, Clear, Add, Strike, CloseUp}
use Rattle.store.specs.declared.Stored.{Stored}
use Rattle.store.specs.declared.Stored.TheVariants.{Done, At, Live}

-- an answer, and the list after it
pub record Result (A : Type 0) : Type 0 where
  pub answer : std.Result Stored Refusal
  pub spots : List (Option A)

-- A spot is a value of A: a record, or its bytes.
module _ {A : Type 0} where
  -- these two, given one by one
  abbrev pub result : std.Result Stored Refusal → List (Option A) → Result A
  result a l = record { answer = a; spots = l }

  -- no spot
  unfoldable pub is_none : Option A → Bool
  is_none none = true
  is_none (some x) = false

  -- the place of the first none; their number where there is none
  unfoldable pub lowest : List (Option A) → ℕ
  lowest [] = 0
  lowest (none ∷ l) = 0
  lowest (some x ∷ l) = suc (lowest l)

  -- the spots that are there, in their order
  unfoldable pub live : List (Option A) → List A
  live [] = []
  live (none ∷ l) = live l
  live (some x ∷ l) = x ∷ live l

  -- the place of the first spot that is not ok; their number where each is
  unfoldable pub first_bad : (A → Bool) → List (Option A) → ℕ
  first_bad ok [] = 0
  first_bad ok (none ∷ l) = suc (first_bad ok l)
  first_bad ok (some x ∷ l) = cond (ok x) (suc (first_bad ok l)) 0

  -- 5: a spot is not ok, with the first one's place
  abbrev pub spots_check : (A → Bool) → List (Option A) → Check
  spots_check ok l = Records (first_bad ok l) when ltb (first_bad ok l) (length l)

-- `ok rows cols` says that a spot is readable, `read` makes it of a new record's bytes.
module _ {A : Type 0} (ok : ℕ → ℕ → A → Bool) (read : List ℕ → A) where
  -- a call's checks, in its order
  unfoldable pub list_checks : Call → List (Option A) → List Check
  list_checks Clear l = []
  list_checks (Add rows cols new) l =
      sides_check rows cols
      ∷ spots_check (ok rows cols) l
      ∷ (Records (length l) when not (eqb (length new) spot_width && ok rows cols (read new)))
      ∷ (Room when leb (length l) (lowest l))
      ∷ []
  list_checks (Strike rows cols i) l = sides_check rows cols ∷ spots_check (ok rows cols) l ∷ (NoSpot when is_none (get_or l i none)) ∷ []
  list_checks (CloseUp rows cols) l = sides_check rows cols ∷ spots_check (ok rows cols) l ∷ []

  -- what a call does: its answer, and the list after it
  unfoldable pub done_list : Call → List (Option A) → Result A
  done_list Clear l = result (Ok Done) (replicate (length l) none)
  done_list (Add rows cols new) l = result (Ok (At (lowest l))) (set l (lowest l) (some (read new)))
  done_list (Strike rows cols i) l = result (Ok Done) (set l i none)
  done_list (CloseUp rows cols) l = result (Ok (Live (length (live l)))) (map some (live l) ++ replicate (length l - length (live l)) none)

  -- a refusal leaves the list as it was; otherwise the call is done
  unfoldable pub ended_list : std.Result ⊤ Refusal → List (Option A) → Result A → Result A
  ended_list (Err r) l done = result (Err r) l
  ended_list (Ok _) l done = done

  -- the whole of a call
  unfoldable pub call_list : Call → List (Option A) → Result A
  call_list c l = ended_list (first_of (list_checks c l)) l (done_list c l)
