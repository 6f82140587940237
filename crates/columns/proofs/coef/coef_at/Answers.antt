-- `coef::coef_at` meets its contract.
use Prim.Native.Nat.{◌+◌}
use Rattle.columns.proofs.CoefLaws.{stored}
use Rattle.columns.proofs.coef.coef_at.Goals as goal

pub returns : goal.returns
returns c =
    let a = c.args in
    stored a.t.now a.l0 a.l1 a.l2 a.l3 (a.z + a.i) a.i a.a.now a.b.now a.c.now a.d.now a.q.now _ _ _ _ _ c.row-ka.ensures c.row-kb.ensures c.row-kc.ensures c.row.ensures c.under_root.ensures
