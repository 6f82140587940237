-- `place::row_sum` meets its contract. The loop keeps that what is summed and what is left make the whole row's sum.
use Rattle.spatial.specs.Place.{sum_from}
use Rattle.spatial.proofs.FitSteps.{sum_turn}
use mathlib.Core.Path.{◌≡◌, refl, sym, ◌∙◌}
use native.Mathlib.Omega.{arith}
use Rattle.spatial.proofs.place.row_sum.Goals as goal

pub loop-i-init : goal.loop-i-init
loop-i-init c = (omega arith, refl)

pub loop-i-preserved : goal.loop-i-preserved
loop-i-preserved c =
    let l = c.loop-i in
    (omega arith, sym (sum_turn _ 9 l.i l.acc c.loop-i-test.true) ∙ l.invariant.1)

pub returns : goal.returns
unfolding sum_from
returns c =
    let l = c.loop-i in
    let e : l.i ≡ 9 = omega arith in
    rw e at l.invariant.1
