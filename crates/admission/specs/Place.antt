-- A spot that lies on its map, a pixel beside another, and a record moved from its pixel. Definitions only.
use Rattle.std.specs.Prelude.{ℕ, ◌+◌, ◌≤◌, ◌≡◌, true, pos}
use Rattle.std.specs.Float.{binary32}
use Rattle.std.specs.Float.Ieee.{of_int, eq}
use Rattle.float.specs.Small.{finite}
use Rattle.float.specs.Num.{◌⊕◌, f0}
use Rattle.moves.specs.Moves.{nearby}
use Rattle.refine.specs.declared.Spot.{Spot}
use Rattle.record.specs.declared.Record.{Record}
use Rattle.record.specs.Readable.{on_side}
use Rattle.pixel.specs.declared.Frame.{Frame}
use Rattle.sized.specs.declared.Home.{Home}

-- x is finite and 0 to cols-1, y is finite and 0 to rows-1
pub record OnMap (f : Frame) (spot : Spot) : Type 0 where
  pub x-finite : finite spot.x ≡ true
  pub y-finite : finite spot.y ≡ true
  pub x : on_side f.cols spot.x ≡ true
  pub y : on_side f.rows spot.y ≡ true

-- the pixel h is (row, col) or one of the eight around it
pub record Beside (row col : ℕ) (h : Home) : Type 0 where
  pub row-least : row ≤ h.row + 1
  pub row-most : h.row ≤ row + 1
  pub col-least : col ≤ h.col + 1
  pub col-most : h.col ≤ col + 1

-- the record's place is the pixel (row, col) plus its displacement, each sum rounded once; the displacement is finite and at most 0.6 in size each way, and where it is a zero it is +0
pub record Moved (row col : ℕ) (r : Record) : Type 0 where
  pub x : r.x ≡ of_int binary32 (pos col) ⊕ r.dx
  pub y : r.y ≡ of_int binary32 (pos row) ⊕ r.dy
  pub x-passes : nearby r.dx ≡ true
  pub y-passes : nearby r.dy ≡ true
  pub x_zero : eq r.dx f0 ≡ true → r.dx ≡ f0
  pub y_zero : eq r.dy f0 ≡ true → r.dy ≡ f0
