-- `view::float_after` meets its contract.
use mathlib.Core.Path.{sym, ◌∙◌}
use Prim.Native.Nat.{◌+◌, ◌*◌}
use native.Mathlib.Omega.{arith}
use Rattle.float.proofs.Floats.{nan_is}
use Rattle.samples.proofs.ViewLaws.{none_after, same_after}
use Rattle.samples.proofs.view.float_after.Goals as goal

pub returns-then-level-p : goal.returns-then-level-p
returns-then-level-p c =
    let a = c.args in
    nan_is ∙ sym (none_after a.level.now (a.col * a.rows + a.row) a.d c.place_of-p.result c.place_of-p.ensures c.if-level-p.true)

pub returns : goal.returns
returns c =
    let a = c.args in
    let p = c.place_of-p in
    same_after a.level.now (a.col * a.rows + a.row) a.d p.result p.ensures (omega (arith, c.if-level-p.false))
