-- Cases of the levels of a raw map: kernels, levels, how far a lost pixel reaches, and refusals. Definitions only.
use Rattle.std.specs.Prelude.{ℕ, List, [], ◌∷◌, cond, get_or, Float}
use Rattle.std.specs.Float.{binary32, nan}
use Rattle.std.specs.Float.Ieee.{of_bits, to_bits}
use Rattle.float.specs.Small.{finite}
use Rattle.tables.specs.declared.Set.{Set}
use Rattle.tables.specs.Refusal.{first_of}
use Rattle.tables.specs.SetT.{values, set_t}
use Rattle.kernels.specs.Kernel.{gaussian_of, kernels_of}
use Rattle.blur.specs.Blur.{level_of}
use Rattle.levels.specs.Levels.{levels_checks}
use Rattle.cases.specs.Case.{Case}
use Rattle.cases.specs.MapM.{of_checked}

-- the radius for a sigma's pattern
unfoldable pub radius_case : ℕ → ℕ → Case
radius_case sigma due = record { given = (gaussian_of (of_bits binary32 sigma)).radius ∷ []; due = due ∷ [] }

-- the radii of set T's four levels in an octave
unfoldable pub radii_case : ℕ → List ℕ → Case
radii_case octave due = record {
  given = (kernels_of octave set_t.sigmas 0).radius ∷ (kernels_of octave set_t.sigmas 1).radius ∷ (kernels_of octave set_t.sigmas 2).radius ∷ (kernels_of octave set_t.sigmas 3).radius ∷ [];
  due = due;
}

-- tap t of set T's level in an octave
unfoldable pub tap_case : ℕ → ℕ → ℕ → ℕ → Case
tap_case octave level t due = record { given = to_bits binary32 (get_or (kernels_of octave set_t.sigmas level).taps t nan) ∷ []; due = due ∷ [] }

-- the patterns of floats
unfoldable pub patterns : List Float → List ℕ
patterns [] = []
patterns (x ∷ xs) = to_bits binary32 x ∷ patterns xs

-- set T's level of a raw map, rows by cols, in octave 0
unfoldable pub level_case : ℕ → ℕ → ℕ → List ℕ → List ℕ → Case
level_case rows cols level raw due = record { given = patterns (level_of (values raw) rows cols (kernels_of 0 set_t.sigmas level)); due = due }

-- 1 for a finite float, 0 for another
unfoldable pub whole : List Float → List ℕ
whole [] = []
whole (x ∷ xs) = cond (finite x) 1 0 ∷ whole xs

-- which pixels of set T's level are finite
unfoldable pub whole_case : ℕ → ℕ → ℕ → List ℕ → List ℕ → Case
whole_case rows cols level raw due = record { given = whole (level_of (values raw) rows cols (kernels_of 0 set_t.sigmas level)); due = due }

-- what the checks of levels say of a raw map of n floats, four buffers of room floats, these sides, this octave and this set
unfoldable pub raw_case : ℕ → ℕ → ℕ → ℕ → ℕ → Set → List ℕ → Case
raw_case n room rows cols octave s due = record { given = of_checked (first_of (levels_checks n room room room room rows cols octave s)); due = due }
