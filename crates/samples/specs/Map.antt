-- What the program's levels and maps hold, as the definitions speak of it. Definitions only.
use Rattle.grid.specs.declared.Levels.{Levels}
use Rattle.samples.specs.declared.map.Map.{Map}
use Rattle.samples.specs.Four.{Four, four_of}
use Rattle.samples.specs.Level.{Maps, maps_of}

-- a list of floats for each level
abbrev pub four_in : Levels → Four
four_in l = four_of l.l0.now l.l1.now l.l2.now l.l3.now

-- the levels, with what they are judged by
abbrev pub maps_in : Map → Maps
maps_in m = maps_of m.levels.l0.now m.levels.l1.now m.levels.l2.now m.levels.l3.now m.frame m.set m.thresholds
