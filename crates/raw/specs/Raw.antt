-- The maps of the levels made of a raw map, and the spots that its lost pixels strike. Definitions only.
use Rattle.std.specs.Prelude.{ℕ, ◌+◌, ◌/◌, ◌%◌, max, ◌≡◌, Bool, true, not, List, Float}
use Rattle.tables.specs.declared.Set.{Set}
use Rattle.tables.specs.declared.Thresholds.{Thresholds}
use Rattle.record.specs.declared.Record.{Record}
use Rattle.pixel.specs.declared.Frame.{Frame}
use Rattle.samples.specs.Level.{Maps, maps_of}
use Rattle.kernels.specs.declared.Kernel.{Kernel}
use Rattle.kernels.specs.Kernel.{kernels_of}
use Rattle.blur.specs.Blur.{level_of}
use Rattle.blur.specs.Reach.{near, touched}
use Rattle.demands.specs.TwoMaps.{of21}

-- the four levels of a raw map by four kernels, with what they are judged by
abbrev pub maps_by : Kernel → Kernel → Kernel → Kernel → List Float → Frame → Set → Thresholds → Maps
maps_by k0 k1 k2 k3 raw f s th =
    maps_of (level_of raw f.rows f.cols k0) (level_of raw f.rows f.cols k1) (level_of raw f.rows f.cols k2) (level_of raw f.rows f.cols k3) f s th

-- those of the set and octave
abbrev pub level_maps : List Float → Frame → Set → Thresholds → Maps
level_maps raw f s th =
    maps_by (kernels_of f.octave s.sigmas 0) (kernels_of f.octave s.sigmas 1) (kernels_of f.octave s.sigmas 2) (kernels_of f.octave s.sigmas 3) raw f s th

-- the largest of four
abbrev pub largest : ℕ → ℕ → ℕ → ℕ → ℕ
largest a b c d = max (max a b) (max c d)

-- the largest of the four radii
abbrev pub reach_of : Frame → Set → ℕ
reach_of f s =
    largest (kernels_of f.octave s.sigmas 0).radius (kernels_of f.octave s.sigmas 1).radius (kernels_of f.octave s.sigmas 2).radius
    (kernels_of f.octave s.sigmas 3).radius

-- no lost raw pixel is at most d + 2 rows and cols off the spot's order key's pixel, save the four corners d + 2 off both ways
unfoldable pub spared_raw : (ℕ → ℕ → Bool) → ℕ → ℕ → ℕ → Record → Bool
spared_raw lost rows cols d r = not (touched lost rows cols (d + 2) (r.key / cols) (r.key % cols))

-- a pixel (row', col') among the 21 of (row, col), and at most d rows and cols off (r, c)
pub record Between (d row col r c : ℕ) : Type 0 where
  pub row' : ℕ
  pub col' : ℕ
  pub on : of21 row col row' col' ≡ true
  pub close : near d row' col' r c ≡ true
