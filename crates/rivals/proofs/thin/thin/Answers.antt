-- `thin::thin` meets its contract: where no word has a bit there is nothing to list.
use borrow.Author.Rules.{rules}
use mathlib.Core.Path.{subst}
use Prim.Native.Nat.{ℕ, ◌+◌, ◌≤◌}
use lib.ListN.{get_or}
use Rattle.rivals.proofs.ThinLaws.{thin_none}
use Rattle.rivals.proofs.thin.thin.Goals as goal

pub returns-then-any-eq0 : goal.returns-then-any-eq0
returns-then-any-eq0 c =
    thin_none c.args.y _ _ _ c.open_line.ensures c.args.set c.args.ratio c.args.n c.args.x c.args.z _ _ _ _ _ _ c.requires.z_bound.1 (search rules)
    (λ i h. subst (λ (m : ℕ). get_or c.args.w.now (c.args.y + i + 1) 0 ≤ m) c.if-any-eq0.true (c.requires.by_index i h))
