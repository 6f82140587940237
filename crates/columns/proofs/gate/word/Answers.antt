-- `gate::word` meets its contract.
use native.Mathlib.Omega.{arith}
use Rattle.columns.specs.Gate.{word_of}
use Rattle.columns.proofs.gate.word.Goals as goal

pub returns : goal.returns
unfolding word_of
returns c = (
  rw (c.bit-3.ensures.0, c.bit-2.ensures.0, c.bit.ensures.0, c.is_passing-2.ensures, c.is_passing.ensures, c.is_owned_high-high.ensures, c.is_owned_low-low.ensures),
  omega (arith, c.bit-3.ensures.1, c.bit-2.ensures.1, c.bit.ensures.1),
)
