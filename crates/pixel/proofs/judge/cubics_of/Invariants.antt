-- `judge::cubics_of` meets its contract.
use mathlib.Core.Path.{◌≡◌}
use lib.ListN.{length, take}
use Rattle.pixel.specs.Verdict.{cubics_of}
use Rattle.pixel.proofs.judge.cubics_of.Given as goal

abbrev pub invariant-loop-i : goal.invariant-loop-i
invariant-loop-i l = (length l.k ≡ 9) × (take l.i l.k ≡ cubics_of l.transform (take l.i l.nine))
