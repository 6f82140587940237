-- `quick::guessed::normal` meets its contract. Assumes nothing.
use Rattle.std.proofs.Common.{ltb, leb, ltb-true, leb-true}
use Rattle.float.proofs.Bools.{both}
use Rattle.quick.proofs.guessed.normal.Goals as goal

pub returns-then-b : goal.returns-then-b
returns-then-b c =
    let b = c.args.b in
    let p = both (leb 0x80_0000 b) (ltb b 0x7f80_0000) c.if-b.true in
    (leb-true _ _ p.0, ltb-true _ _ p.1)
