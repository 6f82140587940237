-- Laws of the check of the thresholds: which patterns it meets, and what passes it. Assumes nothing.
use Prim.Native.Nat.{ℕ, ◌%◌}
use mathlib.Core.Bool.{false}
use mathlib.Core.Path.{◌≡◌, sym, ◌∙◌}
use lib.Dec.{ltb}
use lib.Ieee.{binary32, of_bits, is_nan}
use lib.Ieee.Bits.{nan_bits_is, nan_bits_above}
use Rattle.float.proofs.Bools.{neither}
use Rattle.tables.specs.declared.Thresholds.{Thresholds}
use Rattle.tables.specs.Refusal.{any_nan}

-- a pattern of 32 bits is a NaN exactly where, without its sign, it is above infinity's: quiet or signalling, of either sign
pub nan_patterns : (b : ℕ) → is_nan (of_bits binary32 b) ≡ ltb 0x7f800000 (b % 0x80000000)
nan_patterns b = sym (nan_bits_is binary32 b) ∙ nan_bits_above binary32 b

-- the five thresholds are numbers; an infinity counts as one, and nothing is said of the order of low and high
pub record Numbers (t : Thresholds) : Type 0 where
  pub peak : is_nan t.peak ≡ false
  pub sigma : is_nan t.sigma ≡ false
  pub ratio : is_nan t.ratio ≡ false
  pub low : is_nan t.low ≡ false
  pub high : is_nan t.high ≡ false

-- what passes the check are numbers
pub passed_numbers : (t : Thresholds) → any_nan t ≡ false → Numbers t
unfolding any_nan
passed_numbers t e =
    let four = neither _ (is_nan t.high) e in
    let three = neither _ (is_nan t.low) four.0 in
    let two = neither _ (is_nan t.ratio) three.0 in
    let one = neither (is_nan t.peak) (is_nan t.sigma) two.0 in
    record { peak = one.0; sigma = one.1; ratio = two.1; low = three.1; high = four.1 }

-- and all numbers pass it
pub numbers_pass : (t : Thresholds) → Numbers t → any_nan t ≡ false
unfolding any_nan
numbers_pass t n = rw (n.peak, n.sigma, n.ratio, n.low, n.high)
