-- Candidates of a column that are ruled out by the column itself and by the cubics beside them. Its lines stand in the slot at 0, the cubics of the column before
-- it in that at 260, of the one after it in that at 520. Nothing here stands in a promise of an entry. Definitions only.
use Rattle.std.specs.Prelude.{ℕ, ◌+◌, ◌%◌, ◌≤◌, ◌<◌, ◌≡◌, Bool, not, ◌&&◌, ◌||◌, List, leb, length, get_or, Float, None}
use Rattle.std.specs.Float.Ieee.{lt}
use Rattle.float.specs.Small.{abs_of}
use Rattle.float.specs.Num.{f1e_10}
use Rattle.tables.specs.declared.Set.{Set}
use Rattle.tables.specs.declared.Thresholds.{Thresholds}
use Rattle.fit.specs.Cubic.{◌at◌, coeffs_of}
use Rattle.fit.specs.Band.{sign_of, band_of}
use Rattle.refine.specs.Refine.{denominator_of, steep_of, delta_yOf, delta_xOf, nearby, refine_of}
use Rattle.pixel.specs.Verdict.{verdict_of}
use Rattle.pixel.specs.declared.Frame.{Frame}
use Rattle.columns.specs.Stat.{cubic_in}
use Rattle.rivals.specs.Near.{reaches_at}
use Rattle.rivals.specs.Ends.{ends_at, nine_in, spot_of, accepted_of}
use Rattle.nine.specs.Nine.{nine_beside}

-- the candidate e is reached by the point of the pixel above or below it, or at an end of its band by one of them
unfoldable pub upright_of : List Float → ℕ → List Float → List Float → List Float → List Float → List Float → List Float → Bool
upright_of g e a b c d p v =
    let val = v at (e + 1) in
    let band = band_of g (p at (e + 1)) in
    let sign = sign_of (leb 780 e) in
    (reaches_at band val p v e || reaches_at band val p v (e + 2)) || (ends_at a b c d sign val band (e % 780) || ends_at a b c d sign val band (e % 780 + 2))

-- it is reached at an end of its band by one of the six beside it
unfoldable pub beside_of : List Float → ℕ → List Float → List Float → List Float → List Float → List Float → List Float → Bool
beside_of g e a b c d p v =
    let val = v at (e + 1) in
    let band = band_of g (p at (e + 1)) in
    let sign = sign_of (leb 780 e) in
    let h = e % 780 in
    (ends_at a b c d sign val band (260 + h) || ends_at a b c d sign val band (260 + h + 1) || ends_at a b c d sign val band (260 + h + 2))
    || (ends_at a b c d sign val band (520 + h) || ends_at a b c d sign val band (520 + h + 1) || ends_at a b c d sign val band (520 + h + 2))

-- all tests of the displacement by the fit's five numbers
unfoldable pub places_of : List Float → Bool → Bool
places_of w is_max =
    not (lt (denominator_of w) f1e_10) && (not (lt (abs_of (w at 0)) f1e_10) && (steep_of w is_max && (nearby (delta_xOf w (delta_yOf w)) && nearby (delta_yOf w))))

-- the refinement accepts it
unfoldable pub taken_of : Set → Float → ℕ → List Float → List Float → List Float → List Float → List Float → Bool
taken_of s ratio e a b c d p = accepted_of (refine_of s ratio (nine_in 260 0 520 (e % 780) a b c d) (spot_of (p at (e + 1)) (leb 780 e)))

-- the cubics at the three places from the h-th on lie in the slot at z, made of the samples l
abbrev pub CubicsAt : Set → (ℕ → List Float) → ℕ → ℕ → List Float → List Float → List Float → List Float → Type 0
CubicsAt s l z h a b c d = (q : ℕ) → q < 3 → cubic_in a b c d (z + h + q) ≡ coeffs_of s.scale (l (h + q))

-- a 0 means that the pixel lists nothing, whatever map and place it is of; nothing but 0 and 1 is kept
pub record Left (s : Set) (th : Thresholds) (l : ℕ → ℕ → List Float) (n : ℕ) (keep : List ℕ) : Type 0 where
  pub ruled : (i : ℕ) → i < n → get_or keep i 0 ≡ 0 → (f : Frame) (row col : ℕ) (is_max : Bool) → verdict_of s th f (nine_beside l i) row col is_max ≡ None
  pub bits : (i : ℕ) → i < 256 → get_or keep i 0 ≤ 1
  pub long : length keep ≡ 256
