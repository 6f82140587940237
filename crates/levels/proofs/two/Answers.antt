-- `two` meets its contract.
use Prim.Native.Nat.{◌+◌}
use Rattle.kernels.proofs.Radii.{radius_within}
use Rattle.levels.proofs.LevelsLaws.{placed-is}
use Rattle.levels.proofs.two.Goals as goal

pub two_levels-requires : goal.two_levels-requires
two_levels-requires c =
    let a = c.args in
    record { plane = c.requires.plane; radii = record { first = rw c.octave_kernel-j.ensures (radius_within a.octave a.set.sigmas a.n).1; second = rw c.octave_kernel-k.ensures (radius_within a.octave a.set.sigmas (a.n + 1)).1 } }

pub returns : goal.returns
returns c =
    let p = c.requires.plane in
    let made = c.two_levels.ensures in
    (placed-is _ _ _ _ _ _ _ _ c.octave_kernel-j.ensures p.room_a made.0, placed-is _ _ _ _ _ _ _ _ c.octave_kernel-k.ensures p.room_b made.1)
