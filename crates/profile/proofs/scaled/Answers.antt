-- `scaled` meets its contract.
use Rattle.profile.specs.Profile.{scaled_by}
use Rattle.profile.proofs.scaled.Goals as goal

pub returns-then-usable_roots : goal.returns-then-usable_roots
unfolding scaled_by
returns-then-usable_roots c = rw (← c.roots-root.ensures, ← c.largest-maximum_root.ensures, ← c.over-z.ensures, ← c.usable_roots.ensures, c.if-usable_roots.true) c.fitted.ensures

pub returns-else-usable_roots : goal.returns-else-usable_roots
unfolding scaled_by
returns-else-usable_roots c = rw (← c.roots-root.ensures, ← c.largest-maximum_root.ensures, ← c.over-z.ensures, ← c.usable_roots.ensures, c.if-usable_roots.false)
