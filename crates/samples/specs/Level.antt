-- Four levels, their samples, and the nine places around a pixel. Definitions only.
use Rattle.std.specs.Prelude.{ℕ, zero, suc, ◌+◌, ◌-◌, ◌*◌, ◌/◌, ◌%◌, ◌≤◌, ◌<◌, List, [], ◌∷◌, ◌≡◌, get_or, Float}
use Rattle.std.specs.Float.{nan}
use Rattle.float.specs.Num.{◌⊕◌, ◌⊖◌, ◌⊗◌, f4}
use Rattle.grid.specs.Grid.{pixel_at}
use Rattle.tables.specs.declared.Set.{Set}
use Rattle.tables.specs.declared.Thresholds.{Thresholds}
use Rattle.pixel.specs.declared.Frame.{Frame}

-- four levels of one size, with what they are judged by
pub record Maps : Type 0 where
  pub l0 : List Float
  pub l1 : List Float
  pub l2 : List Float
  pub l3 : List Float
  pub frame : Frame
  pub set : Set
  pub thresholds : Thresholds

-- these, given one by one
abbrev pub maps_of : List Float → List Float → List Float → List Float → Frame → Set → Thresholds → Maps
maps_of l0 l1 l2 l3 f s th = record { l0 = l0; l1 = l1; l2 = l2; l3 = l3; frame = f; set = s; thresholds = th }

-- (left + right + up + down - 4*centre) * sigma squared
unfoldable pub stencil_of : Float → Float → Float → Float → Float → Float → Float
stencil_of left right up down centre sigma = (left ⊕ right ⊕ up ⊕ down ⊖ f4 ⊗ centre) ⊗ (sigma ⊗ sigma)

-- a level's sample at (row, col)
unfoldable pub sample_at : List Float → ℕ → ℕ → ℕ → Float → Float
sample_at l rows row col sigma =
    stencil_of (pixel_at l rows row (col - 1)) (pixel_at l rows row (col + 1)) (pixel_at l rows (row - 1) col) (pixel_at l rows (row + 1) col) (pixel_at l rows row col) sigma

-- the four levels' samples there, each with its own of the four sigmas
unfoldable pub samples_of : List Float → List Float → List Float → List Float → ℕ → List Float → ℕ → ℕ → List Float
samples_of l0 l1 l2 l3 rows sigmas row col =
    sample_at l0 rows row col (get_or sigmas 0 nan) ∷ sample_at l1 rows row col (get_or sigmas 1 nan) ∷ sample_at l2 rows row col (get_or sigmas 2 nan)
    ∷ sample_at l3 rows row col (get_or sigmas 3 nan) ∷ []

-- those of a map
abbrev pub samples_at : Maps → ℕ → ℕ → List Float
samples_at m = samples_of m.l0 m.l1 m.l2 m.l3 m.frame.rows m.set.sigmas

-- what samples gives at the places i, i + 1, .. of the nine around (row, col), n of them, by rows
unfoldable pub places_of : (ℕ → ℕ → List Float) → ℕ → ℕ → ℕ → ℕ → List (List Float)
places_of samples row col zero i = []
places_of samples row col (suc n) i = samples (row + i / 3 - 1) (col + i % 3 - 1) ∷ places_of samples row col n (suc i)

-- at all nine
abbrev pub nine_of : (ℕ → ℕ → List Float) → ℕ → ℕ → List (List Float)
nine_of samples row col = places_of samples row col 9 0

-- a map's samples at the nine places around (row, col)
abbrev pub nine_at : Maps → ℕ → ℕ → List (List Float)
nine_at m = nine_of (samples_at m)

-- (row, col) is at least d off each side of the frame
pub record Within (d : ℕ) (f : Frame) (row col : ℕ) : Type 0 where
  pub top : d ≤ row
  pub bottom : row + d < f.rows
  pub left : d ≤ col
  pub right : col + d < f.cols

-- a frame of sides 0 to 4,096, and levels of n0 to n3 floats that are rows times cols long
pub record Sized (f : Frame) (n0 n1 n2 n3 : ℕ) : Type 0 where
  pub rows-most : f.rows ≤ 4096
  pub cols-most : f.cols ≤ 4096
  pub long0 : n0 ≡ f.rows * f.cols
  pub long1 : n1 ≡ f.rows * f.cols
  pub long2 : n2 ≡ f.rows * f.cols
  pub long3 : n3 ≡ f.rows * f.cols
