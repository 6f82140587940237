-- `octave_count` meets its contract: the side that is passed on is the shortest.
use native.Mathlib.Nat.{min-eq_left, min-eq_right}
use native.Mathlib.Omega.{arith}
use Rattle.pyramid.specs.Pyramid.{octave_count_of}
use Rattle.pyramid.proofs.octave_count.Goals as goal

pub returns-then-rows-cols : goal.returns-then-rows-cols
unfolding octave_count_of
returns-then-rows-cols c = rw (min-eq_left c.if-rows-cols.true) c.octaves.ensures

pub returns-else-rows-cols : goal.returns-else-rows-cols
unfolding octave_count_of
returns-else-rows-cols c =
    let a = c.args in
    rw (min-eq_right {n = a.cols} {m = a.rows} (omega arith)) c.octaves-else-rows-cols.ensures
