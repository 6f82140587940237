-- Laws of detection of what the input holds.
use Prim.Native.Nat.{ℕ}
use mathlib.Core.Path.{◌≡◌}
use mathlib.Core.List.{List}
use lib.ListN.{take}
use lib.Ieee.{Float}
use Rattle.tables.specs.declared.Set.{Set}
use Rattle.tables.specs.declared.Thresholds.{Thresholds}
use Rattle.detect.specs.Detect.{detect_of}
use Rattle.input.specs.Input.{set_from, thresholds_from, rows_from, cols_from, octave_from, area_from, level_array}
use Rattle.input.proofs.InputLaws.{level_start}
use Rattle.lister.specs.Detect.{detect_from}

-- detection of the parts that were read is that of the input
module _ (b out : List ℕ) {s : Set} {th : Thresholds} {rows cols octave n : ℕ} (l0 l1 l2 l3 : List Float) where
  pub detect_parts : s ≡ set_from b → th ≡ thresholds_from b → rows ≡ rows_from b → cols ≡ cols_from b → octave ≡ octave_from b → n ≡ area_from b
      → l0 ≡ level_array b 0 → l1 ≡ level_array b 1 → l2 ≡ level_array b 2 → l3 ≡ level_array b 3
      → detect_of s th rows cols octave (take n l0) (take n l1) (take n l2) (take n l3) out ≡ detect_from b out
  unfolding detect_from
  detect_parts ps pt pr pc po pn p0 p1 p2 p3 =
      let q0 = level_start b 0 pn p0 in
      let q1 = level_start b 1 pn p1 in
      let q2 = level_start b 2 pn p2 in
      let q3 = level_start b 3 pn p3 in
      λ i. detect_of (ps i) (pt i) (pr i) (pc i) (po i) (q0 i) (q1 i) (q2 i) (q3 i) out
