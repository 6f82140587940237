-- `put_cubics` meets its contract.
use Rattle.std.proofs.Common.{rules}
use Rattle.float.specs.Num.{◌⊖◌}
use Rattle.fit.specs.Cubic.{◌at◌}
use Rattle.gather.specs.Step.{Each}
use Rattle.gather.proofs.StepLaws.{cubics_put}
use Rattle.gather.proofs.put_cubics.Goals as goal

pub returns : goal.returns
returns c =
    let a = c.args in
    let x0 = c.four_of.result in
    let x1 = c.four_of-2.result in
    let x2 = c.four_of-3.result in
    let x3 = c.four_of-x3.result in
    let e0 : Each c.pairwise-d0.result (λ q. x0 at q ⊖ x3 at q) = λ q h. let p = c.pairwise-d0.ensures q h in search rules in
    let e1 : Each c.pairwise-d1.result (λ q. x1 at q ⊖ x3 at q) = λ q h. let p = c.pairwise-d1.ensures q h in search rules in
    let e2 : Each c.pairwise-d2.result (λ q. x2 at q ⊖ x3 at q) = λ q h. let p = c.pairwise-d2.ensures q h in search rules in
    cubics_put a.t.now a.s0.now a.s1.now a.s2.now a.s3.now a.z a.h x0 x1 x2 x3 (record { first = search rules; second = search rules; third = search rules; fourth = search rules })
    c.four_of-x3.ensures c.four_of.ensures e0 c.four_of-2.ensures e1 c.four_of-3.ensures e2 c.put_rows.ensures
