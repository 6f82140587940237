-- `run` meets its contract.
use Rattle.std.proofs.Common.{ℕ}
use lib.ListN.{length-replicate}
use Rattle.lister.proofs.OutputLaws.{run_told}
use Rattle.lister.proofs.run.Goals as goal

pub returns : goal.returns
returns g c =
    let n : ℕ = c.in_ok-n.n in
    run_told c.write_all.result _ _ _ _ n _ c.read_full.new.buf _ (length-replicate {A = ℕ} 58161 0) c.in_ok-n.ensures.bytes c.list-r.ensures.begins c.write_all.ensures.bytes
