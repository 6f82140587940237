-- `finish` meets its contract.
use Rattle.blur.proofs.PassLaws.{stored_same, along_kept}
use Rattle.blur.proofs.finish.Goals as goal

pub returns : goal.returns
returns c =
    let p = c.pad.ensures in
    (p.padded.long, stored_same _ _ c.along.ensures (λ r less. along_kept p _ _ r less))
