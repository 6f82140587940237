-- What stands in the list, and in which order. Definitions only.
use Rattle.std.specs.Prelude.{ℕ, zero, suc, ◌/◌, ◌%◌, ◌<◌, ◌≡◌, Bool, ◌⊎◌, List, [], ◌∷◌}
use Rattle.record.specs.declared.Record.{Record}
use Rattle.pixel.specs.declared.Frame.{Frame}
use Rattle.pixel.specs.Verdict.{polarity_of}
use Rattle.pixel.specs.Rules.{Admits}
use Rattle.samples.specs.Level.{Maps, Within, nine_at}

-- the record r stands at the place i of the list, counted from 0
unfoldable pub StandsAt : List Record → ℕ → Record → Type 0
StandsAt [] i r = ⊥
StandsAt (t ∷ ts) zero r = t ≡ r
StandsAt (t ∷ ts) (suc i) r = StandsAt ts i r

-- the record r stands in the list
pub record Stands (rs : List Record) (r : Record) : Type 0 where
  pub place : ℕ
  pub there : StandsAt rs place r

-- only rows 4 to rows-5 and cols 4 to cols-5 are judged
abbrev pub Judged : Frame → ℕ → ℕ → Type 0
Judged f row col = Within 4 f row col

-- the pixel (row, col) of the map meets each of the rules at a polarity, with the record r
abbrev pub AdmitsAt : Maps → ℕ → ℕ → Bool → Record → Type 0
AdmitsAt m row col is_max r = Admits m.set m.thresholds m.frame (nine_at m row col) row col is_max r

-- some judged pixel meets the rules at one of the polarities, with the record r
pub record Admitted (m : Maps) (r : Record) : Type 0 where
  pub row : ℕ
  pub col : ℕ
  pub is_max : Bool
  pub judged : Judged m.frame row col
  pub rules : AdmitsAt m row col is_max r

-- r comes before t: its key is smaller, or the keys are equal, r is a minimum and t a maximum
abbrev pub Before : Record → Record → Type 0
Before r t = (r.key < t.key) ⊎ ((r.key ≡ t.key) × (r.polarity ≡ 0) × (t.polarity ≡ 1))

-- every earlier record comes before every later one
abbrev pub Rising : List Record → Type 0
Rising rs = (i j : ℕ) (r t : Record) → i < j → StandsAt rs i r → StandsAt rs j t → Before r t

-- r tells that it is of the pixel (row, col) at one polarity: that pixel is the order key's own, key / cols and key % cols, wherever refinement moved the spot
pub record Of (cols row col : ℕ) (is_max : Bool) (r : Record) : Type 0 where
  pub row_is : r.key / cols ≡ row
  pub col-is : r.key % cols ≡ col
  pub polarity-is : r.polarity ≡ polarity_of is_max

-- r is the one record of that pixel and polarity in the list, and stands there once
pub record OnlyOne (rs : List Record) (cols row col : ℕ) (is_max : Bool) (r : Record) : Type 0 where
  pub stands : Stands rs r
  pub own : Of cols row col is_max r
  pub only : (t : Record) (j : ℕ) → StandsAt rs j t → Of cols row col is_max t → (t ≡ r) × (j ≡ stands.place)
