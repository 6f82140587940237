-- `pixels::followed` meets its contract: the due list is followed, and then the end is looked at.
use mathlib.Core.Path.{ap, ◌∙◌}
use Rattle.detect.specs.Due.{due}
use Rattle.follow.specs.Follow.{end_of, finding_of}
use Rattle.partner.proofs.pixels.followed.Goals as goal

pub returns : goal.returns
unfolding due finding_of
returns c =
    let a = c.args in
    c.end.ensures ∙ ap (end_of a.list.now) (rw c.saturating_sub-rows.ensures at c.walk.ensures.1)
