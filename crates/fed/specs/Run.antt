-- A run of calls: each is lent the ring and handed the state that the call before left. Definitions only.
use Rattle.std.specs.Prelude.{ℕ, ◌*◌, List, [], ◌∷◌, ◌++◌, take, Float, Result, Ok, Err}
use Rattle.record.specs.Layout.{spot_width}
use Rattle.ring.specs.declared.State.{State}
use Rattle.samples.specs.Four.{Four, four_of}
use Rattle.feed.specs.Feed.{After, column_of}
use Rattle.tables.specs.declared.Refusal.{Refusal}

-- a call's columns, and the output that it is lent
pub record Call : Type 0 where
  pub columns : Four
  pub out : List ℕ

-- what the call leaves
abbrev pub leaves : State → Four → Call → After
leaves s ring c = column_of s c.columns ring c.out

-- the records' bytes that a call hands over: so many as it answers, from the output's start on
unfoldable pub handed : Result ℕ Refusal → List ℕ → List ℕ
handed (Ok n) out = take (n * spot_width) out
handed (Err w) out = []

-- a column that was taken
unfoldable pub taken_by : Result ℕ Refusal → List Float → List Float
taken_by (Ok n) c = c
taken_by (Err w) c = []

-- the state after the calls
unfoldable pub state_after : State → Four → List Call → State
state_after s ring [] = s
state_after s ring (c ∷ cs) = state_after (leaves s ring c).state (leaves s ring c).ring cs

-- all bytes that were handed over, one call's after the other's
unfoldable pub bytes_after : State → Four → List Call → List ℕ
bytes_after s ring [] = []
bytes_after s ring (c ∷ cs) = handed (leaves s ring c).answer (leaves s ring c).out ++ bytes_after (leaves s ring c).state (leaves s ring c).ring cs

-- a level as its taken columns, one after the other; pick says which level
unfoldable pub level_after : (Four → List Float) → State → Four → List Call → List Float
level_after pick s ring [] = []
level_after pick s ring (c ∷ cs) =
    taken_by (leaves s ring c).answer (pick c.columns) ++ level_after pick (leaves s ring c).state (leaves s ring c).ring cs

-- all four
abbrev pub levels_after : State → Four → List Call → Four
levels_after s ring cs =
    four_of (level_after (λ f. f.l0) s ring cs) (level_after (λ f. f.l1) s ring cs) (level_after (λ f. f.l2) s ring cs) (level_after (λ f. f.l3) s ring cs)

-- levels, and what follows them
abbrev pub with : Four → Four → Four
with a b = four_of (a.l0 ++ b.l0) (a.l1 ++ b.l1) (a.l2 ++ b.l2) (a.l3 ++ b.l3)
