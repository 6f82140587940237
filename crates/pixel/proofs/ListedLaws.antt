-- How much a pixel lists. Assumes nothing.
use Rattle.std.specs.Prelude.{Option, Some, None}
use Prim.Native.Nat.{ℕ, ◌≤◌}
use native.Mathlib.Omega.{arith}
use mathlib.Core.Path.{◌≡◌}
use mathlib.Core.Bool.{Bool, true, false}
use mathlib.Core.List.{List, []}
use lib.ListN.{length, length-append}
use lib.Ieee.{Float}
use Rattle.tables.specs.declared.Set.{Set}
use Rattle.tables.specs.declared.Thresholds.{Thresholds}
use Rattle.pixel.specs.Verdict.{verdict_of}
use Rattle.pixel.specs.Listed.{listed, both_listed}
use Rattle.pixel.specs.declared.Frame.{Frame}
use Rattle.record.specs.declared.Record.{Record}

pub listed-short : (v : Option Record) → length (listed v) ≤ 1
unfolding listed
listed-short (Some r) = omega arith
listed-short None = omega arith

module _ (s : Set) (th : Thresholds) (f : Frame) (nine : List (List Float)) (row col : ℕ) where
  -- at most two records
  pub both_short : length (both_listed s th f nine row col) ≤ 2
  unfolding both_listed
  both_short =
      let low = verdict_of s th f nine row col false in
      let high = verdict_of s th f nine row col true in
      omega (arith, length-append (listed low) (listed high), listed-short low, listed-short high)

  -- none where both verdicts are nothing
  pub both_nothing : ((is_max : Bool) → verdict_of s th f nine row col is_max ≡ None) → both_listed s th f nine row col ≡ []
  unfolding both_listed listed
  both_nothing h = rw (h false, h true)
