-- `pass::mark` meets its contract.
use native.Mathlib.Omega.{arith}
use Rattle.sweep.proofs.PassLaws.{passed-by}
use Rattle.sweep.proofs.pass.mark.Goals as goal

pub thin-requires : goal.thin-requires
thin-requires c = let p = c.requires in record { x_bound = p.x_bound; z_bound = (p.z_bound.0, omega (arith, p.z_bound.1)); by_index = λ i h. p.by_index i (omega arith) }

pub put_line-requires : goal.put_line-requires
put_line-requires c = let p = c.requires in record { col_bound = p.col_bound; by_index = c.thin.ensures.bits }

pub returns : goal.returns
returns c =
    passed-by c.args.set c.args.ratio c.args.n c.args.x c.args.y c.args.z _ _ _ _ _ _ _ _ c.args.col _ _ c.requires.z_bound.1 c.thin.ensures c.put_line.ensures
