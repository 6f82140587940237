-- Histories: calls that desks make one after the other on one table. Definitions only.
use Rattle.std.specs.Prelude.{ℕ, Bool, true, false, cond, ◌&&◌, List, [], ◌∷◌, eqb, Float, Result, ⊤}
use Rattle.tables.specs.declared.Thresholds.{Thresholds}
use Rattle.tables.specs.declared.Refusal.{Refusal}
use Rattle.tables.specs.Refusal.{first_of}
use Rattle.detect.specs.Detect as detection
use Rattle.desks.specs.Table.{Slot, set_in}
use Rattle.desks.specs.Desks.{Act, Claim, Write, Release, call_checks, call_of}
use Rattle.desk_run.specs.Run.{run_of}
use Rattle.apart.specs.Slots.{told_by, slot_after}

-- what a run is given beside table and slot
pub record Scan : Type 0 where
  pub thresholds : Thresholds
  pub rows : ℕ
  pub cols : ℕ
  pub octave : ℕ
  pub l0 : List Float
  pub l1 : List Float
  pub l2 : List Float
  pub l3 : List Float
  pub out : List ℕ

-- what is called: a claim, a write or a release of a slot, or a run from one
pub data What : Type 0 where
  Acts : Act → ℕ → What
  Runs : Scan → ℕ → What

-- a call, and the desk that makes it; a run is the same whoever makes it
pub record Call : Type 0 where
  pub by : ℕ
  pub what : What

-- what a call is answered: a run's reply has its whole buffer too
pub data Reply : Type 0 where
  Said : Result ⊤ Refusal → Reply
  Ran : detection.Outcome → Reply

-- the slot that a call names
unfoldable pub slot_named : What → ℕ
slot_named (Acts act i) = i
slot_named (Runs scan i) = i

-- a call gives a slot back
unfoldable pub gives_back : What → Bool
gives_back (Acts Claim i) = false
gives_back (Acts (Write new) i) = false
gives_back (Acts Release i) = true
gives_back (Runs scan i) = false

-- ---- on a table

-- the table after a call; a run leaves it
unfoldable pub after : ℕ → What → List ℕ → List ℕ
after desk (Acts act i) t = (call_of act t desk i).table
after desk (Runs scan i) t = t

-- what it is answered
unfoldable pub reply_to : ℕ → What → List ℕ → Reply
reply_to desk (Acts act i) t = Said (call_of act t desk i).answer
reply_to desk (Runs s i) t = Ran (run_of t i s.thresholds s.rows s.cols s.octave s.l0 s.l1 s.l2 s.l3 s.out)

-- the table after a history
unfoldable pub table_after : List Call → List ℕ → List ℕ
table_after [] t = t
table_after (c ∷ cs) t = table_after cs (after c.by c.what t)

-- a call that this desk makes at this slot
unfoldable pub own_call : ℕ → ℕ → Call → Bool
own_call desk i c = eqb c.by desk && eqb (slot_named c.what) i

-- a call that this desk makes
unfoldable pub of_desk : ℕ → Call → Bool
of_desk desk c = eqb c.by desk

-- the calls of a history that pass a test
unfoldable pub only : (Call → Bool) → List Call → List Call
only test [] = []
only test (c ∷ cs) = cond (test c) (c ∷ only test cs) (only test cs)

-- what a desk's calls at a slot are answered in a history, until it gives the slot back
unfoldable pub replies_at : ℕ → ℕ → List Call → List ℕ → List Reply
replies_at desk i [] t = []
replies_at desk i (c ∷ cs) t =
    cond (own_call desk i c) (reply_to c.by c.what t ∷ cond (gives_back c.what) [] (replies_at desk i cs (after c.by c.what t)))
    (replies_at desk i cs (after c.by c.what t))

-- ---- on one slot of the desk's, with nobody else

-- what a call makes of it
unfoldable pub slot_then : ℕ → What → Slot → Slot
slot_then desk (Acts act i) s = slot_after act desk true s
slot_then desk (Runs scan i) s = s

-- what it is answered: a run is detection with the set found there
unfoldable pub reply_by : ℕ → What → Slot → Reply
reply_by desk (Acts act i) s = Said (told_by (first_of (call_checks act desk true s)))
reply_by desk (Runs r i) s = Ran (detection.detect_of (set_in s) r.thresholds r.rows r.cols r.octave r.l0 r.l1 r.l2 r.l3 r.out)

-- what a desk's calls are answered where they come alone, until it gives the slot back
unfoldable pub alone : ℕ → List Call → Slot → List Reply
alone desk [] s = []
alone desk (c ∷ cs) s = reply_by desk c.what s ∷ cond (gives_back c.what) [] (alone desk cs (slot_then desk c.what s))
