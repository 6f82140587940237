-- What a given column lists, and which of its pixels are ruled out. Definitions only.
use Rattle.std.specs.Prelude.{ℕ, ◌-◌, List}
use Rattle.record.specs.declared.Record.{Record}
use Rattle.samples.specs.Map.{four_in}
use Rattle.ring.specs.Ring.{pixel_spots, column_spots}
use Rattle.ring.specs.Lent.{Ruled}
use Rattle.ring.specs.declared.column.Column.{Column}

-- what a pixel of the judged column lists
abbrev pub pixel_in : Column → ℕ → List Record
pixel_in c row = pixel_spots c.state (four_in c.ring) (four_in c.given) row (c.state.position - 2)

-- what its first n judged pixels list
abbrev pub column_in : Column → ℕ → List Record
column_in c n = column_spots c.state (four_in c.ring) (four_in c.given) (c.state.position - 2) n

-- the marks of its first n judged pixels rule out no pixel that lists something
abbrev pub RuledIn : Column → ℕ → List ℕ → Type 0
RuledIn c n marks = Ruled c.state (four_in c.ring) (four_in c.given) n marks
