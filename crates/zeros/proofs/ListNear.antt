-- The list under any choice of zeros at every call: the same but for the signs of zero peaks.
use Rattle.std.specs.Prelude.{Option}
use mathlib.Core.Path.{◌≡◌, refl, ap}
use Prim.Native.Nat.{ℕ, zero, suc, ◌+◌, ◌-◌, ◌<◌}
use native.Mathlib.Nat.{le_of_suc-le-suc, not-suc-le-zero}
use mathlib.Core.Bool.{Bool, true, false}
use mathlib.Core.List.{List, ◌++◌}
use lib.ListN.{get_or, length}
use lib.Ieee.{Float}
use Rattle.float.specs.Num.{f0}
use Rattle.record.specs.declared.Record.{Record}
use Rattle.samples.specs.Level.{Maps, nine_at}
use Rattle.pixel.specs.Listed as Listed
use Rattle.detect.specs.Due as Due
use Rattle.zeros.specs.Alike.{RecordNear, VerdictNear, nothing, listed, RecordsNear, none, more, with_peak, peakless}
use Rattle.zeros.specs.Choices.{Choices, AllAllowed, all_ours, judge_by, pixel_due_by, row_due_by, rows_due_by, due_by}
use Rattle.zeros.proofs.PixelNear.{verdict~}

-- ---- lists that differ at most in the signs of zero peaks

append~ : {a b c d : List Record} → RecordsNear a b → RecordsNear c d → RecordsNear (a ++ c) (b ++ d)
append~ none k = k
append~ (more e h) k = more e (append~ h k)

listed~ : {a b : (Option Record)} → VerdictNear a b → RecordsNear (Listed.listed a) (Listed.listed b)
unfolding Listed.listed
listed~ nothing = none
listed~ (listed e) = more e none

-- the same count
pub count~ : {a b : List Record} → RecordsNear a b → length a ≡ length b
count~ none = refl
count~ (more e h) = ap suc (count~ h)

-- place by place, each field but the peak equal
pub place~ : {a b : List Record} → RecordsNear a b → (i : ℕ) (r : Record) → i < length a → RecordNear (get_or a i r) (get_or b i r)
place~ none i r h = absurd (not-suc-le-zero h)
place~ (more e h) zero r l = e
place~ (more e h) (suc i) r l = place~ h i r (le_of_suc-le-suc l)

pub with_peak~ : {a b : Record} → RecordNear a b → (v : Float) → with_peak a v ≡ with_peak b v
unfolding with_peak
with_peak~ R v = rw (R.x, R.y, R.sigma, R.s0, R.s1, R.s2, R.s3, R.key, R.octave, R.index, R.polarity, R.spare, R.dx, R.dy)

-- equal but for the peaks: the same keys, polarities, places, sigmas and samples
pub peakless~ : {a b : List Record} → RecordsNear a b → peakless a ≡ peakless b
unfolding peakless
peakless~ none = refl
peakless~ (more e h) = rw (with_peak~ e f0, peakless~ h)

-- ---- this build's list is that of its own choices

module _ (m : Maps) where
  judge_ours : (row col : ℕ) (is_max : Bool) → Due.judge_of m row col is_max ≡ judge_by all_ours m row col is_max
  unfolding Due.judge_of judge_by
  judge_ours row col is_max = refl

  pixel_ours : (row col : ℕ) → Due.pixel_due m row col ≡ pixel_due_by all_ours m row col
  unfolding Due.pixel_due pixel_due_by
  pixel_ours row col = rw (judge_ours row col false, judge_ours row col true)

  row-ours : (row n : ℕ) → Due.row_due m row n ≡ row_due_by all_ours m row n
  unfolding Due.row_due row_due_by
  row-ours row zero = refl
  row-ours row (suc n) = rw (row-ours row n, pixel_ours row (n + 4))

  rows-ours : (n : ℕ) → Due.rows_due m n ≡ rows_due_by all_ours m n
  unfolding Due.rows_due rows_due_by
  rows-ours zero = refl
  rows-ours (suc n) = rw (rows-ours n, row-ours (n + 4) (m.frame.cols - 8))

  -- the due list is the one of this build's choices
  pub due-ours : Due.due m ≡ due_by all_ours m
  unfolding Due.due due_by
  due-ours = rows-ours (m.frame.rows - 8)

-- ---- the whole list

module _ (P : Choices) (A : AllAllowed P) (m : Maps) where
  judge~ : (row col : ℕ) (is_max : Bool) → VerdictNear (judge_by P m row col is_max) (Due.judge_of m row col is_max)
  unfolding judge_by Due.judge_of
  judge~ row col is_max = verdict~ (P row col is_max) (A row col is_max) m.set m.thresholds m.frame (nine_at m row col) row col is_max

  pixel~ : (row col : ℕ) → RecordsNear (pixel_due_by P m row col) (Due.pixel_due m row col)
  unfolding pixel_due_by Due.pixel_due
  pixel~ row col = append~ (listed~ (judge~ row col false)) (listed~ (judge~ row col true))

  row~ : (row n : ℕ) → RecordsNear (row_due_by P m row n) (Due.row_due m row n)
  unfolding row_due_by Due.row_due
  row~ row zero = none
  row~ row (suc n) = append~ (row~ row n) (pixel~ row (n + 4))

  rows~ : (n : ℕ) → RecordsNear (rows_due_by P m n) (Due.rows_due m n)
  unfolding rows_due_by Due.rows_due
  rows~ zero = none
  rows~ (suc n) = append~ (rows~ n) (row~ (n + 4) (m.frame.cols - 8))

  -- any allowed choice lists the same, but for the signs of zero peaks
  pub due~ : RecordsNear (due_by P m) (Due.due m)
  unfolding due_by Due.due
  due~ = rows~ (m.frame.rows - 8)

  -- the same count
  pub due_count~ : length (due_by P m) ≡ length (Due.due m)
  due_count~ = count~ due~

  -- the same but for the peaks
  pub due_peakless~ : peakless (due_by P m) ≡ peakless (Due.due m)
  due_peakless~ = peakless~ due~
