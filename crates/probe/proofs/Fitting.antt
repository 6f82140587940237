-- What fits can be blurred. Assumes nothing.
use Prim.Native.Nat.{ℕ, ◌*◌, ◌≤◌}
use native.Mathlib.Nat.{mul_comm}
use native.Mathlib.Omega.{arith}
use mathlib.Core.Bool.{false}
use mathlib.Core.List.{List}
use mathlib.Core.Path.{◌≡◌}
use lib.ListN.{length}
use lib.Dec.{eqb}
use lib.Ieee.{Float}
use borrow.Author.Tests.{ltb-false, eqb-true, not-false}
use Rattle.float.proofs.Bools.{neither}
use Rattle.grid.specs.Grid.{at_start, Stored}
use Rattle.grid.proofs.StoredLaws.{stored-start}
use Rattle.kernels.specs.declared.Kernel.{Kernel}
use Rattle.blur.specs.Blur.{level_of}
use Rattle.blur.specs.Passes.{Plane}
use Rattle.blur.proofs.LevelLaws.{length-level}
use Rattle.probe.specs.Blurs.{misfits}

-- what does not misfit
pub record Fits (rows cols n x y j k : ℕ) : Type 0 where
  pub plane : Plane n x y rows cols
  pub first : j ≤ 16
  pub second : k ≤ 16

pub fits : (rows cols n x y j k t u : ℕ) → misfits rows cols n x y j k t u ≡ false → Fits rows cols n x y j k
unfolding misfits
fits rows cols n x y j k t u h =
    let a = neither _ _ h in
    let sides = neither _ _ a.0 in
    let b = neither _ _ a.1 in
    let c = neither _ _ b.1 in
    let d = neither _ _ c.1 in
    let e = neither _ _ d.1 in
    let f = neither _ _ e.1 in
    record {
      plane = record {
        rows-most = ltb-false _ _ sides.0;
        cols-most = ltb-false _ _ sides.1;
        long = eqb-true _ _ (not-false (eqb n (rows * cols)) b.0);
        room_a = ltb-false _ _ c.0;
        room_b = ltb-false _ _ d.0;
      };
      first = ltb-false _ _ e.0;
      second = ltb-false _ _ f.0;
    }

-- a level stored at a buffer's start
pub level_start : (raw : List Float) (rows cols : ℕ) (k : Kernel) (out : List Float) {out' : List Float} → rows * cols ≤ length out → Stored out out' 0 (level_of raw rows cols k)
    → out' ≡ at_start (level_of raw rows cols k) out
level_start raw rows cols k out room h = stored-start h (omega (arith, length-level raw rows cols k, mul_comm rows cols))
