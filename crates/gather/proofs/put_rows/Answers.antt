-- `put_rows` meets its contract.
use Rattle.std.proofs.Common.{rules, ◌≡◌, ap, ◌∙◌}
use lib.Ieee.{Float}
use Rattle.float.specs.Num.{◌⊕◌}
use Rattle.fit.specs.Cubic.{◌at◌}
use Rattle.gather.proofs.StepLaws.{each-written}
use Rattle.gather.proofs.put_rows.Goals as goal

pub returns : goal.returns
returns c =
    let s = c.args.s in
    record {
      first = each-written c.rows.result _ c.rows.ensures c.put.ensures;
      second = each-written c.rows-2.result _ c.rows-2.ensures c.put-2.ensures;
      third = each-written c.rows-3.result _ c.rows-3.ensures c.put-3.ensures;
      fourth = each-written c.pairwise.result _ (λ q h. let p = c.pairwise.ensures q h in let e : c.pairwise.result at q ≡ (c.rows-4.result at q) ⊕ (s at q) = search rules in e ∙ ap (λ (y : Float). y ⊕ s at q) (c.rows-4.ensures q h)) c.put-4.ensures;
    }
