-- `marked` meets its contract: what the chain counts of the first n marks.
use native.Mathlib.Omega.{arith}
use mathlib.Core.Path.{◌≡◌, ◌∙◌}
use lib.ListN.{take}
use Rattle.std.proofs.Common.{rules}
use Rattle.std.specs.List.{count_by}
use Rattle.std.proofs.lemmas.List.{length-take-le}
use Rattle.std.proofs.lemmas.List.Sums.{count_by-le-length}
use Rattle.spots.proofs.MarkedLaws.{is_mark, marked_counted}
use Rattle.spots.proofs.marked.Goals as goal

pub returns : goal.returns
returns c =
    let a = c.args in
    let part = take a.n a.marks.now in
    let counted : c.count.result ≡ count_by is_mark part = search rules in
    (counted ∙ marked_counted a.marks.now a.n (omega arith), omega (arith, counted, count_by-le-length is_mark part, length-take-le a.n a.marks.now (omega arith)))
