-- A run is refused with 11, or is detection with the set found in the slot. Assumes nothing.
use Rattle.std.specs.Prelude.{Err}
use Prim.Native.Nat.{ℕ}
use mathlib.Core.Bool.{true, false}
use mathlib.Core.List.{List}
use mathlib.Core.Path.{◌≡◌}
use lib.Ieee.{Float}
use Rattle.tables.specs.declared.Thresholds.{Thresholds}
use Rattle.tables.specs.declared.Refusal.TheVariants.{NotYours}
use Rattle.tables.specs.Refusal.{unless, first_of}
use Rattle.detect.specs.Detect.{outcome, detected, detect_of}
use Rattle.desks.specs.Table.{slot_of, set_in, runnable}
use Rattle.desk_run.specs.Run.{run_checks, run_of}

module _ (t : List ℕ) (i : ℕ) (th : Thresholds) (rows cols octave : ℕ) (l0 l1 l2 l3 : List Float) (out : List ℕ) where
  -- from a slot that no run may be made from it is 11, and the buffer is kept
  pub not-runnable : runnable t i ≡ false → run_of t i th rows cols octave l0 l1 l2 l3 out ≡ outcome (Err NotYours) out
  unfolding run_of run_checks first_of unless detected
  not-runnable e = rw e

  -- from any other it is detection, refusals and all, with the set found there
  pub run_detects : runnable t i ≡ true → run_of t i th rows cols octave l0 l1 l2 l3 out ≡ detect_of (set_in (slot_of t i)) th rows cols octave l0 l1 l2 l3 out
  unfolding run_of run_checks first_of unless detect_of
  run_detects e = rw e
