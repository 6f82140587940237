-- `words::read_floats` meets its contract.
use mathlib.Core.Path.{◌≡◌, refl, sym, ◌∙◌}
use Prim.Native.Nat.{◌<◌}
use native.Mathlib.Omega.{arith}
use lib.ListN.{length, length-set}
use lib.Seq.{take_all}
use Rattle.words.specs.Words.{floats_at}
use Rattle.words.proofs.Stores.{filled_next}
use Rattle.words.proofs.WordsLaws.{floats-next}
use Rattle.words.proofs.read_floats.Goals as goal

pub loop-k-init : goal.loop-k-init
unfolding floats_at
loop-k-init c = (omega arith, refl, refl)

pub loop-k-preserved : goal.loop-k-preserved
loop-k-preserved c =
    let l = c.loop-k in
    let h : l.k < length l.out = omega arith in (
      simp length-set (omega arith),
      simp length-set (omega arith),
      rw c.float_from.ensures (filled_next l.out _ l.k _ h l.invariant.2 ∙ floats-next l.k _ _),
    )

pub returns : goal.returns
returns c =
    let l = c.loop-k in
    let end : l.k ≡ length l.out = omega arith in
    sym (take_all l.k l.out (omega arith)) ∙ l.invariant.2 ∙ rw (end, l.invariant.1)
