-- `record::is_finite_record` meets its contract. Assumes nothing.
use Rattle.record.specs.Readable.{finite_record}
use Rattle.record.proofs.is_finite_record.Goals as goal

pub returns : goal.returns
unfolding finite_record
returns c = cc
