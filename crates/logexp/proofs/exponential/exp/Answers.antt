-- `logexp::exponential::exp` meets its contract. Assumes nothing.
use mathlib.Core.Path.{◌≡◌, sym, ap, ◌∙◌, subst}
use mathlib.Core.Bool.{false}
use Prim.Native.Nat.{◌-◌, ◌<◌}
use native.Mathlib.Nat.{lt_of_le_of_lt, le_of_eq, lt_trans}
use borrow.Author.Tests.{lt-ltb, le-ltb}
use lib.Dec.{T, lit<}
use lib.Ieee.{binary32, of_bits, to_bits, div, neg, le}
use lib.Ieee.Compare.{differs_from_itself}
use Rattle.logexp.specs.Exp.{f89, f_104, exp_up, exp_down, exp_of}
use Rattle.float.proofs.Floats.{not-nan}
use Rattle.logexp.proofs.Places.{below_89, above_minus_104}
use Rattle.logexp.proofs.Steps.{fixed_lt}
use Rattle.logexp.proofs.exponential.exp.Goals as goal
use Rattle.logexp.proofs.exponential.exp.Goals.{Else-b-lt2147483648, Then-b-lt2147483648}

-- the two tests that failed, with the numbers as the definition writes them
under : (c : Then-b-lt2147483648) → le f89 c.args.x ≡ false
unfolding of_bits
under c = c.if-x-2.false

over : (c : Else-b-lt2147483648) → le c.args.x f_104 ≡ false
unfolding of_bits neg
over c = c.if-x-3.false

small : (c : Then-b-lt2147483648) → to_bits binary32 c.args.x < 0x42d0_0000
small c = lt_trans (below_89 c.args.x (subst T (sym c.well_formed.0.1) tt) c.if-x.false (under c) c.if-b-lt2147483648.true) (lit< tt)

large : (c : Else-b-lt2147483648) → to_bits binary32 c.args.x - 0x8000_0000 < 0x42d0_0000
large c = above_minus_104 c.args.x (subst T (sym c.well_formed.0.1) tt) c.if-x.false (over c) c.if-b-lt2147483648.false

pub returns-then-x : goal.returns-then-x
unfolding exp_of
returns-then-x c = rw c.if-x.true (differs_from_itself c.args.x (subst T (sym c.if-x.true) tt))

pub returns-then-x-2 : goal.returns-then-x-2
unfolding exp_of div of_bits
returns-then-x-2 c = rw (c.if-x.false, c.if-x-2.true)

pub returns-then-x-3 : goal.returns-then-x-3
unfolding exp_of of_bits neg
returns-then-x-3 c = rw (c.if-x.false, c.if-x-2.false, c.if-x-3.true)

pub float_to_bits-b : goal.float_to_bits-b
float_to_bits-b c = not-nan c.args.x c.if-x.false

pub fixed-requires : goal.fixed-requires
fixed-requires c = small (goal.at.fixed-requires c).Then-b-lt2147483648

pub exp_up-requires : goal.exp_up-requires
exp_up-requires c = lt_of_le_of_lt (le_of_eq c.fixed.ensures) (fixed_lt _ (small (goal.at.exp_up-requires c).Then-b-lt2147483648))

pub fixed-requires-else-b-lt2147483648 : goal.fixed-requires-else-b-lt2147483648
fixed-requires-else-b-lt2147483648 c = large (goal.at.fixed-requires-else-b-lt2147483648 c).Else-b-lt2147483648

pub exp_down-requires : goal.exp_down-requires
exp_down-requires c = lt_of_le_of_lt (le_of_eq c.fixed-else-b-lt2147483648.ensures) (fixed_lt _ (large (goal.at.exp_down-requires c).Else-b-lt2147483648))

pub returns-then-b-lt2147483648 : goal.returns-then-b-lt2147483648
unfolding exp_of of_bits neg
returns-then-b-lt2147483648 c =
    rw (c.if-x.false, c.if-x-2.false, c.if-x-3.false, lt-ltb _ _ c.if-b-lt2147483648.true) (c.exp_up.ensures ∙ ap exp_up c.fixed.ensures)

pub returns-else-b-lt2147483648 : goal.returns-else-b-lt2147483648
unfolding exp_of of_bits neg
returns-else-b-lt2147483648 c =
    rw (c.if-x.false, c.if-x-2.false, c.if-x-3.false, le-ltb _ _ c.if-b-lt2147483648.false) (c.exp_down.ensures ∙ ap exp_down c.fixed-else-b-lt2147483648.ensures)
