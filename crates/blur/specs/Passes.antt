-- What the two passes ask and leave, line by line. Definitions only.
use Rattle.std.specs.Prelude.{ℕ, ◌-◌, ◌*◌, ◌≤◌, ◌<◌, ◌≡◌, List, length, Float}
use Rattle.grid.specs.Grid.{pixel_at, list_of, Stored}
use Rattle.kernels.specs.declared.Kernel.{Kernel}
use Rattle.lines.specs.Lines.{line_at, Held}
use Rattle.blur.specs.Blur.{pass_to}

-- the pass across columns by the taps up to n
abbrev pub columns : List Float → ℕ → ℕ → List Float → ℕ → ℕ → ℕ → Float
columns raw rows cols taps col n r = pass_to (pixel_at raw rows r) (cols - 1) taps col n

-- the pass along a line by the taps up to n
abbrev pub along_to : List Float → ℕ → List Float → ℕ → ℕ → Float
along_to line rows taps n r = pass_to (line_at line) (rows - 1) taps r n

-- l is a line, and its first n floats are what f gives
pub record Holds (l : List Float) (n : ℕ) (f : ℕ → Float) : Type 0 where
  pub long : length l ≡ 4128
  pub float : Held l 16 n f

-- a map of n floats, rows by cols, with sides of 1 to 4,096, and a column of it
pub record Map (n rows cols col : ℕ) : Type 0 where
  pub tall : 1 ≤ rows
  pub rows-most : rows ≤ 4096
  pub cols-most : cols ≤ 4096
  pub inside : col < cols
  pub long : n ≡ rows * cols

-- a map of n floats, rows by cols, with sides to 4,096, and two buffers with room for as many
pub record Plane (n a b rows cols : ℕ) : Type 0 where
  pub rows-most : rows ≤ 4096
  pub cols-most : cols ≤ 4096
  pub long : n ≡ rows * cols
  pub room_a : rows * cols ≤ a
  pub room_b : rows * cols ≤ b

-- the kernels have radii to 16
pub record Radii (j k : Kernel) : Type 0 where
  pub first : j.radius ≤ 16
  pub second : k.radius ≤ 16

-- after t taps across columns one or two more are done, and the line holds the pass by the r so far
pub record Across (t r radius : ℕ) (l : List Float) (rows : ℕ) (pass : ℕ → ℕ → Float) : Type 0 where
  pub more : t < r
  pub most : r ≤ radius
  pub holds : Holds l rows (pass r)

-- after t taps along a line one, two or four more are done, and the pass by the r so far is stored
pub record Along (t r radius : ℕ) (out out' : List Float) (at rows : ℕ) (pass : ℕ → ℕ → Float) : Type 0 where
  pub more : t < r
  pub most : r ≤ radius
  pub stored : Stored out out' at (list_of (pass r) rows)

-- two lines hold their passes by the taps up to r, which is at most either radius
pub record Shared (r : ℕ) (j k : Kernel) (a b : List Float) (rows : ℕ) (pass pass' : ℕ → ℕ → Float) : Type 0 where
  pub most : r ≤ j.radius
  pub most' : r ≤ k.radius
  pub holds : Holds a rows (pass r)
  pub holds' : Holds b rows (pass' r)

-- one column of two levels is stored, and the two lines are still lines
pub record Drawn (a b x x' y y' : List Float) (at : ℕ) (fs gs : List Float) : Type 0 where
  pub a_long : length a ≡ 4128
  pub b_long : length b ≡ 4128
  pub first : Stored x x' at fs
  pub second : Stored y y' at gs
