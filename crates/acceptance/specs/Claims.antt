-- The words of the claims about edited lists. Definitions only.
use Rattle.std.specs.Prelude.{ℕ, ◌≤◌, ◌<◌, ◌≡◌, ◌⊎◌, List, ◌++◌, set}
use Rattle.record.specs.declared.Record.{Record}
use Rattle.record.specs.Layout.{record_bytes, bytes_of}
use Rattle.demands.specs.List.{Stands}

-- each of the records gs is one of ds
abbrev pub Sub : List Record → List Record → Type 0
Sub gs ds = (r : Record) → Stands gs r → Stands ds r

-- the bytes of front, d and back, but for the byte o of d, which is x
abbrev pub changed : List Record → Record → List Record → ℕ → ℕ → List ℕ
changed front d back o x = bytes_of front ++ (set (record_bytes d) o x ++ bytes_of back)

-- the byte o of a record belongs to its key, or is its polarity: the bytes that the order goes by
abbrev pub Ordering : ℕ → Type 0
Ordering o = ((32 ≤ o) × (o < 36)) ⊎ (o ≡ 38)
