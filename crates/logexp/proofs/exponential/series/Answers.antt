-- `logexp::exponential::series` meets its contract. Assumes nothing.
use native.Mathlib.Omega.{arith}
use Rattle.logexp.specs.Exp.{series_of}
use Rattle.logexp.proofs.exponential.series.Goals as goal

pub returns : goal.returns
unfolding series_of
returns c = (cc, omega arith)
