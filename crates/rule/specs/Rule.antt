-- The marks of the judged column by blocks. Nothing here stands in a promise of an entry. Definitions only.
use Rattle.std.specs.Prelude.{ℕ, ◌+◌, ◌-◌, ◌<◌, ◌≡◌, List, [], length, get_or}
use Rattle.samples.specs.Four.{Four}
use Rattle.ring.specs.declared.State.{State}
use Rattle.ring.specs.Ring.{pixel_spots}

-- Ruled of n pixels from the j-th on, with marks of their own
pub record RuledPart (s : State) (ring given : Four) (j n : ℕ) (marks : List ℕ) : Type 0 where
  pub long : length marks ≡ 256
  pub ruled : (i : ℕ) → i < n → get_or marks i 0 ≡ 0 → pixel_spots s ring given (j + i + 4) (s.position - 2) ≡ []

-- the first n of keep stand from the j-th mark on; the marks before them are as they were
pub record Copied (j n : ℕ) (keep before after : List ℕ) : Type 0 where
  pub here : (i : ℕ) → i < n → get_or after (j + i) 0 ≡ get_or keep i 0
  pub same : (i : ℕ) → i < j → get_or after i 0 ≡ get_or before i 0
  pub long : length after ≡ length before
