-- `put_decimal` meets its contract.
use native.Mathlib.Omega.{arith}
use mathlib.Core.Path.{◌∙◌}
use Prim.Native.Nat.{◌≤◌}
use lib.ListN.{length-take}
use Rattle.text.proofs.TextLaws.{digits_decimal, fewest_most}
use Rattle.text.proofs.put_decimal.Goals as goal

pub put_text-requires : goal.put_text-requires
put_text-requires c =
    let most : c.decimal-count.result ≤ 20 = fewest_most _ _ (omega arith) c.decimal-count.ensures.len in
    simp length-take (omega arith)

pub returns : goal.returns
returns c =
    let d = c.decimal-count.ensures in
    let p = c.put_text.ensures in
    let most : c.decimal-count.result ≤ 20 = fewest_most _ _ (omega arith) d.len in
    record { wrote = rw (d.digits ∙ digits_decimal _ _ d.len) at p; upper_bound = omega (arith, simp length-take at p.count) }
