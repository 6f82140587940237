-- `put_half` meets its contract.
use native.Mathlib.Omega.{arith}
use Prim.Native.Nat.{◌/◌, ◌%◌}
use mathlib.Core.Path.{◌≡◌}
use Rattle.words.specs.Words.{half_bytes}
use Rattle.words.proofs.put_half.Goals as goal

pub returns : goal.returns
unfolding half_bytes
returns c =
    let high : c.args.v / 256 % 256 ≡ c.args.v / 256 = omega arith in
    rw (c.put_first.ensures, c.to_le_bytes.ensures, high)
