-- `list_tile` meets its contract.
use native.Mathlib.Omega.{arith}
use Rattle.text.proofs.TextLaws.{wrote_append}
use Rattle.lister.proofs.OutputLaws.{wrote_begins, tile-found, tile-refused}
use Prim.Native.Nat.{ℕ}
use lib.ListN.{length-replicate}
use Rattle.lister.proofs.list_tile.Goals as goal

pub put_found-requires : goal.put_found-requires
put_found-requires c = omega (arith, c.put_lines-end.ensures.wrote.long)

pub returns-in-Ok : goal.returns-in-Ok
returns-in-Ok c =
    let e = rw c.in-Ok.is at c.detect_from-answer.ensures in
    let lines = rw c.shown-printed.ensures at c.put_lines-end.ensures.wrote in
    rw (tile-found _ _ _ (length-replicate {A = ℕ} 62400 0) e) at (wrote_begins (wrote_append lines c.put_found.ensures))

pub returns-in-Err : goal.returns-in-Err
returns-in-Err c =
    let e = rw c.in-Err.is at c.detect_from-answer.ensures in
    rw (← tile-refused _ _ _ e, ← c.from.ensures) (wrote_begins c.put_refused.ensures)
