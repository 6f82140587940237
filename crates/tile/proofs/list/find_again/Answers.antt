-- `list::find_again` meets its contract.
use Rattle.tile.proofs.ListLaws.{listed_part}
use borrow.Author.Rules.{rules}
use Rattle.tile.proofs.list.find_again.Goals as goal

-- part-detect-start : tie.Need-slice-bounds-detect-start
-- part-detect-start c = search rules

-- part-detect-end : tie.Need-slice-bounds-detect-end
-- part-detect-end c = search rules

pub returns : goal.returns
returns c =
    let a = c.args in
    let d = c.detect in
    listed_part a.set a.th a.h a.w a.octave a.t0.now a.t1.now a.t2.now a.t3.now c.requires.small d.result a.out.now _ a.at a.n c.requires.n_value c.requires.spot_width_in_bounds d.ensures
