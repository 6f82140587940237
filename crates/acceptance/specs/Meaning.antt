-- What each finding means, for the records ds that are due and the bytes b that were given. Definitions only.
use Rattle.std.specs.Prelude.{ℕ, ◌*◌, ◌≤◌, ◌<◌, ◌≡◌, ◌⊎◌, List, length, take}
use Rattle.record.specs.declared.Record.{Record}
use Rattle.record.specs.Layout.{spot_width, record_bytes, record_at, bytes_of, Held}
use Rattle.demands.specs.List.{StandsAt}
use Rattle.follow.specs.Follow.{count_of, own_bytes, Earlier}
use Rattle.follow.specs.declared.Finding.{Finding}
use Rattle.follow.specs.declared.Finding.TheVariants.{Yes, Extra, Absent, Different}

-- the first i records are there in both, and the given bytes are those due
pub record Agree (ds : List Record) (b : List ℕ) (i : ℕ) : Type 0 where
  pub in_due : i ≤ length ds
  pub in_given : i ≤ count_of b
  pub bytes : take (i * spot_width) b ≡ bytes_of (take i ds)

-- a record stands at place i of those due, and P holds of it
pub record DueAt (ds : List Record) (i : ℕ) (P : Record → Type 0) : Type 0 where
  pub due : Record
  pub there : StandsAt ds i due
  pub holds : P due

-- extra: a record is given at i, and either no more are due, or it comes before the one that is due there
pub record ExtraAt (ds : List Record) (b : List ℕ) (i : ℕ) : Type 0 where
  pub agree : Agree ds b i
  pub given : i < count_of b
  pub reason : (i ≡ length ds) ⊎ DueAt ds i (λ d. Earlier (record_at b i) d)

-- absent: a record is due at i, and either the list ends there, or the one given there comes after it
pub record AbsentAt (ds : List Record) (b : List ℕ) (i : ℕ) : Type 0 where
  pub agree : Agree ds b i
  pub reason : ((i < length ds) × (i ≡ count_of b)) ⊎ ((i < count_of b) × DueAt ds i (λ d. Earlier d (record_at b i)))

-- different: the record given at i has the key and the polarity of the one due there, and another byte
pub record DifferentAt (ds : List Record) (b : List ℕ) (i : ℕ) : Type 0 where
  pub agree : Agree ds b i
  pub given : i < count_of b
  pub same_place : DueAt ds i (λ d. ((record_at b i).key ≡ d.key) × ((record_at b i).polarity ≡ d.polarity) × (own_bytes b i ≡ record_bytes d → ⊥))

-- what a finding says; yes says that the bytes are those due
unfoldable pub Means : List Record → List ℕ → Finding → Type 0
Means ds b Yes = b ≡ bytes_of ds
Means ds b (Extra i) = ExtraAt ds b i
Means ds b (Absent i) = AbsentAt ds b i
Means ds b (Different i) = DifferentAt ds b i

-- the finding is one of the three that name a difference, with the index i
pub data Differs (i : ℕ) : Finding → Type 0 where
  extra : Differs i (Extra i)
  absent : Differs i (Absent i)
  different : Differs i (Different i)

-- each of the records can be written
abbrev pub AllHeld : List Record → Type 0
AllHeld ds = (i : ℕ) (r : Record) → StandsAt ds i r → Held r
