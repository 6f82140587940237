-- `nine_by` meets its contract.
use mathlib.Core.Path.{◌∙◌}
use Rattle.samples.specs.Map.{four_in}
use Rattle.nine.proofs.NineLaws.{nine_turned}
use Rattle.nine.proofs.nine_by.Goals as goal

pub returns : goal.returns
returns c =
    let a = c.args in
    c.turn.ensures
    ∙ nine_turned (four_in a.l.now) (four_in a.r.now) a.u a.x a.y a.z a.t _
    c.level_nine-p.ensures c.level_nine-q.ensures c.level_nine-v.ensures c.level_nine-w.ensures
