-- What the Rust leaves open: which zero min and max give at two zeros, at each of their calls, and the zero at which a sum starts. Definitions only.
use Rattle.std.specs.Prelude.{ℕ, Float}
use Rattle.float.specs.Small.{min_of, max_of}
use Rattle.float.specs.Num.{f0}
use Rattle.fit.specs.Near.{Near}

-- ---- which call of min or max it is

-- of the two end samples, in the envelope
abbrev pub end_samples : ℕ
end_samples = 0

-- of the discriminant and 0, before its root is taken
abbrev pub under_root : ℕ
under_root = 1

-- of an end of the band and the outermost sigma there
abbrev pub band_cut : ℕ
band_cut = 2

-- of the cubic's values at the two ends of the band
abbrev pub band_ends : ℕ
band_ends = 3

-- of the better end's value and that at the turning point
abbrev pub turning_point : ℕ
turning_point = 4

-- of the two inner samples, in ownership
abbrev pub inner_pair : ℕ
inner_pair = 5

-- of the two outer samples, in ownership
abbrev pub outer_pair : ℕ
outer_pair = 6

-- ---- choices

-- A choice at each call: the number is that of the call, so two calls may choose unlike. A sum's is its row.
pub record Prims : Type 0 where
  pub min_p : ℕ → Float → Float → Float
  pub max_p : ℕ → Float → Float → Float
  pub start : ℕ → Float

-- a choice that keeps the numbers
pub record Allowed (p : Prims) : Type 0 where
  pub low : (i : ℕ) (a b : Float) → Near (p.min_p i a b) (min_of a b)
  pub high : (i : ℕ) (a b : Float) → Near (p.max_p i a b) (max_of a b)
  pub first : (i : ℕ) → Near (p.start i) f0

-- this build's: the left of two equal numbers, and +0
abbrev pub ours : Prims
ours = record { min_p = λ i a b. min_of a b; max_p = λ i a b. max_of a b; start = λ i. f0 }
