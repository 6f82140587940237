-- How the records of a list lie: an old list's, from before displacements were kept, or a present one's. Definitions only.
use Rattle.std.specs.Prelude.{ℕ, ◌*◌, Bool, cond, List}
use Rattle.tables.specs.declared.Set.{Set}
use Rattle.record.specs.declared.Record.{Record}
use Rattle.record.specs.Layout.{spot_width, old_width, record_at, old_from}
use Rattle.sized.specs.Sized.{sized_width, old_sized_width, sized_bytes, old_sized_bytes}

-- how many bytes a record has, in an old list or a present one
abbrev pub width_of : Bool → ℕ
width_of old = cond old old_width spot_width

-- and a sized record
abbrev pub sized_width_of : Bool → ℕ
sized_width_of old = cond old old_sized_width sized_width

-- the i-th record of a list
abbrev pub record_in : Bool → List ℕ → ℕ → Record
record_in old b i = cond old (old_from b (i * old_width)) (record_at b i)

-- a record's sized bytes
abbrev pub sized_in : Bool → Set → Record → List ℕ
sized_in old s r = cond old (old_sized_bytes s r) (sized_bytes s r)
