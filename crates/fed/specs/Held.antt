-- The map of a feed, and what its ring holds of it. Definitions only.
use Rattle.std.specs.Prelude.{ℕ, ◌+◌, ◌≤◌, ◌<◌, ◌≡◌, List, length, get_or, Float}
use Rattle.std.specs.Float.{nan}
use Rattle.grid.specs.Grid.{pixel_at}
use Rattle.samples.specs.Level.{Maps, maps_of}
use Rattle.ring.specs.declared.State.{State}
use Rattle.samples.specs.Four.{Four}
use Rattle.ring.specs.Ring.{frame_of, slot_of}

-- the map of a feed whose columns make up these levels
abbrev pub map_of : State → Four → Maps
map_of s l = maps_of l.l0 l.l1 l.l2 l.l3 (frame_of s) s.set s.thresholds

-- the last five of the first n columns of the level l lie in the ring
abbrev pub Holds : List Float → ℕ → ℕ → List Float → Type 0
Holds l rows n ring = (k row : ℕ) → k < n → n ≤ k + 5 → row < rows → get_or ring (slot_of rows k + row) nan ≡ pixel_at l rows row k

-- c is the n-th column of the level l
pub record Column (l : List Float) (rows n : ℕ) (c : List Float) : Type 0 where
  pub long : length c ≡ rows
  pub same : (row : ℕ) → row < rows → get_or c row nan ≡ pixel_at l rows row n

-- the ring holds the last five of the first n columns of four levels
pub record Held (m : Maps) (n : ℕ) (ring : Four) : Type 0 where
  pub l0 : Holds m.l0 m.frame.rows n ring.l0
  pub l1 : Holds m.l1 m.frame.rows n ring.l1
  pub l2 : Holds m.l2 m.frame.rows n ring.l2
  pub l3 : Holds m.l3 m.frame.rows n ring.l3

-- c are the n-th columns of four levels
pub record Given (m : Maps) (n : ℕ) (c : Four) : Type 0 where
  pub l0 : Column m.l0 m.frame.rows n c.l0
  pub l1 : Column m.l1 m.frame.rows n c.l1
  pub l2 : Column m.l2 m.frame.rows n c.l2
  pub l3 : Column m.l3 m.frame.rows n c.l3
