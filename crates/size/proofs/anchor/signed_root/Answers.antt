-- `signed_root` meets its contract.
use Rattle.size.specs.Correct.{signed_root}
use Rattle.size.proofs.anchor.signed_root.Goals as goal

pub returns-then-c : goal.returns-then-c
unfolding signed_root
returns-then-c c = rw (← c.sqrt-root.ensures, c.if-c.true)

pub returns-else-c : goal.returns-else-c
unfolding signed_root
returns-else-c c = rw (← c.sqrt-root.ensures, c.if-c.false)
