-- `record::put_at` meets its contract. Assumes nothing.
use native.Mathlib.Omega.{arith}
use mathlib.Core.Path.{sym, ◌∙◌}
use Rattle.record.proofs.LayoutLaws.{put-room, put_full}
use Rattle.record.proofs.put_at.Goals as goal

pub returns-then-at-out : goal.returns-then-at-out
returns-then-at-out c = c.put_record.ensures ∙ sym (put-room _ _ _ (omega arith))

pub returns-else-at-out : goal.returns-else-at-out
returns-else-at-out c = sym (put_full _ _ _ (omega arith))
