-- Detection's checks, in their order. Definitions only.
use Rattle.std.specs.Prelude.{ℕ, ◌*◌, not, ◌||◌, List, [], ◌∷◌, eqb}
use Rattle.tables.specs.declared.Set.{Set}
use Rattle.tables.specs.declared.Thresholds.{Thresholds}
use Rattle.tables.specs.declared.Refusal.TheVariants.{Level}
use Rattle.tables.specs.Refusal.{Check, ◌when◌, sides_check, octave_check, thresholds_check, set_check}

-- 2: one of four levels of n0 to n3 floats is not n long
abbrev pub levels_check : ℕ → ℕ → ℕ → ℕ → ℕ → Check
levels_check n0 n1 n2 n3 n = Level when (not (eqb n0 n) || (not (eqb n1 n) || (not (eqb n2 n) || not (eqb n3 n))))

-- detection's checks: the first that holds is answered
unfoldable pub detect_checks : ℕ → ℕ → ℕ → ℕ → ℕ → ℕ → ℕ → Thresholds → Set → List Check
detect_checks n0 n1 n2 n3 rows cols octave t s =
    sides_check rows cols ∷ levels_check n0 n1 n2 n3 (rows * cols) ∷ octave_check octave ∷ thresholds_check t ∷ set_check s ∷ []
