-- `float::root::near_root` meets its contract. Assumes nothing.
use native.Mathlib.Omega.{arith}
use Rattle.float.proofs.Roots.{root_facts, near_down, near_up}
use Rattle.float.proofs.root.near_root.Goals as goal

pub overflow_mul-r : goal.overflow_mul-r
overflow_mul-r c = let f = root_facts c.args.n c.root_of-r.result c.requires c.root_of-r.ensures in omega arith

pub overflow_add-r : goal.overflow_add-r
overflow_add-r c = let f = root_facts c.args.n c.root_of-r.result c.requires c.root_of-r.ensures in omega arith

pub returns-then-n-r : goal.returns-then-n-r
returns-then-n-r c = near_down c.args.n c.root_of-r.result c.root_of-r.ensures c.if-n-r.true

pub returns-else-n-r : goal.returns-else-n-r
returns-else-n-r c = near_up c.args.n c.root_of-r.result c.root_of-r.ensures c.if-n-r.false
