-- `logexp::logarithm::log2_bits` meets its contract. Assumes nothing.
use mathlib.Core.Path.{ap, ◌∙◌}
use Prim.Native.Nat.{ℕ}
use Rattle.logexp.specs.Log.{expo_of, digits_of, joined, log2_pos}
use Rattle.logexp.proofs.logarithm.log2_bits.Goals as goal

pub returns : goal.returns
unfolding log2_pos
returns c =
    c.join.ensures
    ∙ ap (λ (k : ℕ). joined k c.digits-f.result) c.expo.ensures.0
    ∙ ap (joined (expo_of c.args.b)) (c.digits-f.ensures.0 ∙ ap (digits_of 21) c.wide.ensures.0)
