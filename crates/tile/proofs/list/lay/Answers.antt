-- `list::lay` meets its contract.
use mathlib.Core.Path.{ap, ◌∙◌}
use lib.Seq.{sets}
use borrow.Author.Rules.{rules}
use Rattle.tile.proofs.list.lay.Goals as goal

pub returns : goal.returns
returns c =
    let holds = c.requires.holds in
    c.put_first.ensures ∙ ap (sets c.args.out.now c.args.at) (holds.begins c.if-n-gt-HELD.false)
