-- How many claims and writes of a slot a history has that are done. Definitions only.
use Rattle.std.specs.Prelude.{ℕ, ◌+◌, cond, List, [], ◌∷◌, eqb, Result, Ok, Err, ⊤}
use Rattle.desks.specs.Desks.{Act, Claim, Write, Release, call_of}
use Rattle.apart.specs.Calls.{What, Acts, Runs, Call, after}
use Rattle.tables.specs.declared.Refusal.{Refusal}

-- what a call that is done adds to the count: one for a claim and for a write
unfoldable pub adds : Act → ℕ
adds Claim = 1
adds (Write new) = 1
adds Release = 0

-- and one that is refused: nothing
unfoldable pub if_done : Result ⊤ Refusal → ℕ → ℕ
if_done (Ok _) n = n
if_done (Err r) n = 0

-- the claims and writes of the slot i that one call does: 1 or 0
unfoldable pub write_of : ℕ → ℕ → What → List ℕ → ℕ
write_of i desk (Acts act j) t = cond (eqb j i) (if_done (call_of act t desk j).answer (adds act)) 0
write_of i desk (Runs scan j) t = 0

-- those that a history does
unfoldable pub writes : ℕ → List Call → List ℕ → ℕ
writes i [] t = 0
writes i (c ∷ cs) t = write_of i c.by c.what t + writes i cs (after c.by c.what t)
