-- `fill_list` meets its contract: four lines of samples, and the cubics by them.
use Rattle.samples.specs.Map.{four_in}
use Rattle.gather.proofs.ListLaws.{gathered_by}
use Rattle.gather.proofs.fill_list.Goals as goal

pub level_list-requires : goal.level_list-requires
level_list-requires c = record { span = c.requires.spans.l0; n_bound = c.requires.n_bound }

pub level_list-requires-2 : goal.level_list-requires-2
level_list-requires-2 c = record { span = c.requires.spans.l1; n_bound = c.requires.n_bound }

pub level_list-requires-3 : goal.level_list-requires-3
level_list-requires-3 c = record { span = c.requires.spans.l2; n_bound = c.requires.n_bound }

pub level_list-requires-4 : goal.level_list-requires-4
level_list-requires-4 c = record { span = c.requires.spans.l3; n_bound = c.requires.n_bound }

pub returns : goal.returns
returns c =
    let a = c.args in
    gathered_by (four_in a.l.now) (four_in a.r.now) a.left a.mid a.right _ _ _ _ _
    c.level_list.ensures c.level_list-2.ensures c.level_list-3.ensures c.level_list-4.ensures c.cubic_list.ensures
