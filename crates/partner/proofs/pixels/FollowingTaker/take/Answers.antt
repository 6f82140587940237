-- `take` meets its contract: two verdicts followed one after the other.
use mathlib.Core.Path.{refl, sym, ◌∙◌}
use Rattle.follow.proofs.WalkLaws.{walk_append}
use Rattle.partner.proofs.pixels.FollowingTaker.take.Goals as goal

pub returns : goal.returns
returns c = (refl, c.met-self.ensures ∙ rw c.met-v.ensures (sym (walk_append _ _ _ _)))
