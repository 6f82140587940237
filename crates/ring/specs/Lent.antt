-- What the feed's inner functions ask of their callers. Nothing here stands in a promise of an entry. Definitions only.
use Rattle.std.specs.Prelude.{ℕ, ◌+◌, ◌-◌, ◌*◌, ◌≤◌, ◌<◌, ◌≡◌, cond, List, [], length, get_or}
use Rattle.samples.specs.Four.{Four}
use Rattle.ring.specs.declared.State.{State}
use Rattle.ring.specs.Ring.{judges, pixel_spots}

-- each slice of the ring has room for five columns
pub record Roomy (rows : ℕ) (ring : Four) : Type 0 where
  pub l0 : 5 * rows ≤ length ring.l0
  pub l1 : 5 * rows ≤ length ring.l1
  pub l2 : 5 * rows ≤ length ring.l2
  pub l3 : 5 * rows ≤ length ring.l3

-- four columns are rows long
pub record Long (rows : ℕ) (given : Four) : Type 0 where
  pub l0 : length given.l0 ≡ rows
  pub l1 : length given.l1 ≡ rows
  pub l2 : length given.l2 ≡ rows
  pub l3 : length given.l3 ≡ rows

-- the ring and the columns given are lent as they should be
pub record Lent (rows : ℕ) (ring given : Four) : Type 0 where
  pub rows-most : rows ≤ 4096
  pub roomy : Roomy rows ring
  pub long : Long rows given

-- how many pixels of the judged column are judged: none where none is
unfoldable pub height_of : State → ℕ
height_of s = cond (judges s) (s.rows - 8) 0

-- a mark of 0 means that the pixel of the judged column lists nothing; nothing else is claimed of it
pub record Ruled (s : State) (ring given : Four) (n : ℕ) (marks : List ℕ) : Type 0 where
  pub long : length marks ≡ 4096
  pub ruled : (i : ℕ) → i < n → get_or marks i 0 ≡ 0 → pixel_spots s ring given (i + 4) (s.position - 2) ≡ []
