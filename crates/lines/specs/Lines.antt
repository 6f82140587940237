-- Lines of floats: what the loops over them leave. Definitions only.
use Rattle.std.specs.Prelude.{ℕ, ◌+◌, ◌-◌, ◌≤◌, ◌<◌, ◌≡◌, List, length, get_or, Float}
use Rattle.std.specs.Float.{nan}
use Rattle.float.specs.Num.{◌⊕◌, ◌⊗◌}

-- the floats of a list from place p on
abbrev pub from : List Float → ℕ → ℕ → Float
from l p i = get_or l (p + i) nan

-- a weighing: the floats of l from p on, times w
unfoldable pub weighed : List Float → ℕ → Float → ℕ → Float
weighed l p w i = from l p i ⊗ w

-- an adding to f: the two floats of l from lo and from hi on, summed first, times w
unfoldable pub more : (ℕ → Float) → List Float → ℕ → ℕ → Float → ℕ → Float
more f l lo hi w i = f i ⊕ (from l lo i ⊕ from l hi i) ⊗ w

-- a line is 4,128 long: 16 places before 4,096 and 16 behind them; this is the float at its place j
abbrev pub line_at : List Float → ℕ → Float
line_at l = from l 16

-- the n floats of l from place at on are what f gives
abbrev pub Held : List Float → ℕ → ℕ → (ℕ → Float) → Type 0
Held l at n f = (i : ℕ) → i < n → from l at i ≡ f i

-- a line of n floats: the 16 places before it hold its first, the 16 behind it its last
pub record Padded (l : List Float) (n : ℕ) : Type 0 where
  pub some : 1 ≤ n
  pub most : n ≤ 4096
  pub long : length l ≡ 4128
  pub before : (j : ℕ) → j < 16 → get_or l j nan ≡ line_at l 0
  pub behind : (j : ℕ) → j < 16 → line_at l (n + j) ≡ line_at l (n - 1)

-- what the padding of a line of n floats leaves
pub record Padding (l l' : List Float) (n : ℕ) : Type 0 where
  pub padded : Padded l' n
  pub kept : Held l' 16 n (line_at l)
