-- `is_record` meets its contract: the record's bytes, written and compared.
use Prim.Native.Nat.{ℕ}
use mathlib.Core.Path.{sym, ap₂, ◌∙◌}
use lib.ListN.{length-replicate}
use Rattle.alike.specs.Same.{same}
use Rattle.alike.proofs.PartLaws.{part_is, sets-all}
use Rattle.record.specs.Layout.{spot_width}
use Rattle.record.proofs.LayoutLaws.{length-record_bytes}
use Rattle.follow.proofs.is_record.Goals as goal

-- part-is-same-start : tie.Need-slice-bounds-is-same-start
-- part-is-same-start c = search rules

-- part-is-same-end : tie.Need-slice-bounds-is-same-end
-- part-is-same-end c = search rules

pub returns : goal.returns
returns c =
    let a = c.args in
    let own = c.put_record.ensures ∙ sets-all _ _ (length-record_bytes a.d ∙ sym (length-replicate {A = ℕ} spot_width 0)) in
    c.is_same.ensures ∙ ap₂ same own (part_is spot_width a.list.now a.at)
