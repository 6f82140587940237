-- `byte_of` meets its contract.
use Prim.Native.Nat.{ℕ, ◌+◌}
use mathlib.Core.Path.{◌≡◌}
use native.Mathlib.Omega.{arith}
use lib.ListN.{get_or}
use Rattle.marks.proofs.MarksLaws.{byte_digits}
use Rattle.marks.proofs.byte_of.Goals as goal

pub nibble-low-requires : goal.nibble-low-requires
nibble-low-requires c = let most = c.requires.by_index in (most _ (omega arith), most _ (omega arith), most _ (omega arith), most _ (omega arith))

pub nibble-high-requires : goal.nibble-high-requires
nibble-high-requires c = let most = c.requires.by_index in (most _ (omega arith), most _ (omega arith), most _ (omega arith), most _ (omega arith))

pub returns : goal.returns
returns c =
    let first : c.args.i + 0 ≡ c.args.i = omega arith in
    let digits = byte_digits (λ (j : ℕ). get_or c.args.keep.now (c.args.i + j) 0) (λ j less. c.requires.by_index _ (omega arith)) in
    rw (c.nibble-low.ensures.0, c.nibble-high.ensures.0) (rw first at digits)
