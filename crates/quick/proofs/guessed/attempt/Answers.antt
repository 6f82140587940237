-- `quick::guessed::attempt` meets its contract. Assumes nothing.
use Rattle.std.proofs.Common.{ℕ, ◌+◌, ◌*◌, ◌/◌, ap, ◌∙◌, arith}
use Rattle.float.specs.Root.{near_root}
use Rattle.quick.proofs.Normal.{exponent_of, digits_of, doubled_is, normal_pattern}
use Rattle.quick.proofs.guessed.attempt.Goals as goal

pub settle-s-requires : goal.settle-s-requires
settle-s-requires c = (omega (arith, c.doubled.ensures.1, c.to_u64.ensures), omega arith)

pub returns : goal.returns
returns c =
    let t = c.settle-s in
    let n = c.to_u64.ensures ∙ c.doubled.ensures.0 in
    let p = c.args.p in (
      omega (arith, t.ensures.0),
      λ near.
          ap (λ (q : ℕ). exponent_of p / 2 * 8388608 + q) (t.ensures.1 near ∙ ap (λ (m : ℕ). near_root (m * 8388608)) n ∙ ap near_root (doubled_is (digits_of p) (exponent_of p)))
          ∙ normal_pattern p c.requires.0,
    )
