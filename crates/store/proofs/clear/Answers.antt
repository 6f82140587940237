-- `clear` meets its contract.
use Rattle.store.proofs.CallLaws.{clear-done, clear-refused}
use Rattle.store.proofs.clear.Goals as goal

pub returns-then-buffer-ne0 : goal.returns-then-buffer-ne0
returns-then-buffer-ne0 c = clear-refused c.args.buffer.now c.if-buffer-ne0.true

pub returns : goal.returns
returns c = clear-done c.args.buffer.now _ c.if-buffer-ne0.false c.free_from.ensures
