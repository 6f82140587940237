-- What takes the due records. Definitions only.
use Rattle.std.specs.Prelude.{ℕ, ◌+◌, ◌≤◌, ◌≡◌, Bool, true, List, [], ◌++◌, length}
use Rattle.record.specs.declared.Record.{Record}

-- the laws of a taker's states: took s ds t says that s, given the records ds, is t; a state has room for so many records more, and one that is full stays as it is
pub record TakerLaws {S : Type 0} (took : S → List Record → S → Type 0) (room : S → ℕ) (is_full : S → Bool) : Type 0 where
  pub none : (s : S) → took s [] s
  pub parts : (s t u : S) (ds es : List Record) → took s ds t → took t es u → took s (ds ++ es) u
  pub room_left : (s t : S) (ds : List Record) → took s ds t → room s ≤ room t + length ds
  pub full_stays : (s : S) (ds : List Record) → is_full s ≡ true → took s ds s
