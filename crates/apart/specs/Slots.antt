-- What a desk's call answers and makes of its slot, by the slot alone. Definitions only.
use Rattle.std.specs.Prelude.{ℕ, suc, ◌<◌, Bool, true, List, ◌≡◌, length, Result, Ok, Err, ⊤}
use Rattle.tables.specs.Refusal.{first_of}
use Rattle.tables.specs.declared.Refusal.{Refusal}
use Rattle.desks.specs.Table.{table_width, Slot, slot_of, a_desk}
use Rattle.desks.specs.Desks.{Act, Claim, Write, Release, call_checks, zeros}

-- what is answered, by the checks
unfoldable pub told_by : Result ⊤ Refusal → Result ⊤ Refusal
told_by (Err r) = Err r
told_by (Ok _) = Ok tt

-- what a call that is done makes of its slot
unfoldable pub slot_done : Act → ℕ → Slot → Slot
slot_done Claim desk s = record { bytes = zeros; owner = desk; count = suc s.count }
slot_done (Write new) desk s = record { bytes = new; owner = s.owner; count = suc s.count }
slot_done Release desk s = record { bytes = s.bytes; owner = 0; count = s.count }

-- a refusal leaves it
unfoldable pub slot_by : Result ⊤ Refusal → Slot → Slot → Slot
slot_by (Err r) s new = s
slot_by (Ok _) s new = new

-- what a call makes of its slot; u says whether table, desk and slot are usable
abbrev pub slot_after : Act → ℕ → Bool → Slot → Slot
slot_after act desk u s = slot_by (first_of (call_checks act desk u s)) s (slot_done act desk s)

-- a desk owns the slot i of a table
pub record Owned (desk i : ℕ) (t : List ℕ) : Type 0 where
  pub long : length t ≡ table_width
  pub inside : i < 8
  pub named : a_desk desk ≡ true
  pub owner : (slot_of t i).owner ≡ desk
