-- `quick::guessed::settle` meets its contract. Assumes nothing.
use Rattle.std.proofs.Common.{arith}
use Rattle.quick.proofs.Normal.{settled}
use Rattle.quick.proofs.guessed.settle.Goals as goal

pub overflow_add-root : goal.overflow_add-root
overflow_add-root c = omega (arith, c.one.ensures.1)

pub overflow_add-root-2 : goal.overflow_add-root-2
overflow_add-root-2 c = omega (arith, c.one-2.ensures.1, c.one.ensures.1)

pub returns : goal.returns
returns c =
    let a = c.one.ensures in
    let b = c.one-2.ensures in
    let k = c.to_u64.ensures in
    let w = c.gap-w in
    (omega (arith, a.1, b.1), λ near. rw (a.0, b.0) (settled c.args.n c.args.k w.result c.requires.0 c.requires.1 (rw k at w.ensures) near))
