-- `nine_at` meets its contract: five columns of a level lie rows apart.
use Prim.Native.Nat.{◌-◌}
use native.Mathlib.Omega.{arith}
use mathlib.Core.Path.{refl, ◌∙◌}
use Rattle.nine.proofs.LevelsLaws.{levels_beside, nine_there}
use Rattle.nine.proofs.nine_at.Goals as goal

pub nine_by-requires : goal.nine_by-requires
nine_by-requires c = levels_beside c.requires c.place-u.ensures.0 c.args.map.now.sized _ _ _ _ refl refl refl refl

pub returns : goal.returns
returns c =
    let a = c.args in
    let m = a.map.now in
    let p = c.requires in
    c.nine_by.ensures
    ∙ nine_there m.levels.l0.now m.levels.l1.now m.levels.l2.now m.levels.l3.now m.frame.rows m.set.sigmas (a.row - 1) a.col _ _ _ _ _ (omega (arith, p.top)) p.left c.place-u.ensures.0 refl refl refl refl a.row (omega (arith, p.top))
