-- `along::step` meets its contract.
use native.Mathlib.Omega.{arith}
use Rattle.blur.proofs.PassLaws.{stored_same, along_more, along_two, along_four}
use Rattle.blur.proofs.along.step.Goals as goal

pub returns-then-v-k : goal.returns-then-v-k
returns-then-v-k c =
    let a = c.args in
    let p = c.requires in
    record {
      more = omega arith;
      most = c.if-v-k.true;
      stored = stored_same _ _ c.add_four.ensures (λ r less. along_four _ _ _ p.padded _ a.t _ _ r (omega (arith, p.radius_bound, c.if-v-k.true)) less (p.held r less) (omega arith) (omega arith));
    }

pub returns-then-u-k : goal.returns-then-u-k
returns-then-u-k c =
    let a = c.args in
    let p = c.requires in
    record {
      more = omega arith;
      most = c.if-u-k.true;
      stored = stored_same _ _ c.add_two.ensures (λ r less. along_two _ _ _ p.padded _ a.t _ _ _ _ r (omega (arith, p.radius_bound, c.if-u-k.true)) less (p.held r less) (omega arith) (omega arith) (omega arith) (omega arith));
    }

pub returns : goal.returns
returns c =
    let a = c.args in
    let p = c.requires in
    record {
      more = omega arith;
      most = omega (arith, p.t_lt_radius);
      stored = stored_same _ _ c.add.ensures (λ r less. along_more _ _ _ p.padded _ a.t _ _ r (omega (arith, p.radius_bound, p.t_lt_radius)) less (p.held r less) (omega arith) (omega arith));
    }
