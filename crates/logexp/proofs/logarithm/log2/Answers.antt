-- `logexp::logarithm::log2` meets its contract. Assumes nothing.
use mathlib.Core.Path.{sym, subst}
use lib.Dec.{T}
use lib.Ieee.{of_bits, div, neg}
use lib.Ieee.Compare.{differs_from_itself}
use Rattle.logexp.specs.Log.{log2_of}
use Rattle.float.proofs.Floats.{not-nan, is-inf, is_positive}
use Rattle.float.proofs.Patterns.{positive_bits}
use Rattle.logexp.proofs.logarithm.log2.Goals as goal

pub returns-then-x : goal.returns-then-x
unfolding log2_of
returns-then-x c = rw c.if-x.true (differs_from_itself c.args.x (subst T (sym c.if-x.true) tt))

pub returns-then-x-2 : goal.returns-then-x-2
unfolding log2_of div of_bits
returns-then-x-2 c = rw (c.if-x.false, c.if-x-2.true)

pub returns-then-x-3 : goal.returns-then-x-3
unfolding log2_of div of_bits neg
returns-then-x-3 c = rw (c.if-x.false, c.if-x-2.false, c.if-x-3.true)

pub returns-then-x-4 : goal.returns-then-x-4
unfolding log2_of div of_bits
returns-then-x-4 c = rw (c.if-x.false, c.if-x-2.false, c.if-x-3.false, c.if-x-4.true) (is-inf c.args.x c.if-x-4.true)

pub float_to_bits-x : goal.float_to_bits-x
float_to_bits-x c = not-nan c.args.x c.if-x.false

pub log2_bits-requires : goal.log2_bits-requires
unfolding div of_bits
log2_bits-requires c =
    positive_bits c.args.x (subst T (sym c.well_formed.0.1) tt) (is_positive c.args.x c.if-x.false c.if-x-2.false c.if-x-3.false c.if-x-4.false)

pub returns : goal.returns
unfolding log2_of div of_bits
returns c =
    rw (c.if-x.false, c.if-x-2.false, c.if-x-3.false, c.if-x-4.false) c.log2_bits.ensures
