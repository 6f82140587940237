-- `words::float_of` meets its contract. Assumes nothing.
use Prim.Native.Nat.{ℕ, ◌%◌, ◌≤◌, ◌<◌}
use mathlib.Core.Path.{◌≡◌, refl, sym, ◌∙◌}
use mathlib.Core.Bool.{true, not}
use lib.Dec.{T}
use lib.Ieee.{Float, nan, inf, fin, binary32, of_bits, nan_bits, is_nan}
use lib.Ieee.Bits.{nan_bits_is, nan_bits_above}
use borrow.Author.Tests.{lt-ltb, le-ltb}
use Rattle.float.proofs.Floats.{nan_is}
use Rattle.words.proofs.float_of.Goals as goal

no_nan : (w : ℕ) → w % 2147483648 ≤ 2139095040 → T (not (nan_bits binary32 w))
no_nan w h = rw (nan_bits_above binary32 w, le-ltb 2139095040 (w % 2147483648) h) tt

only_nan : (x : Float) → is_nan x ≡ true → x ≡ nan
unfolding is_nan
only_nan nan h = refl
only_nan (inf s) h = cc
only_nan (fin s m e) h = cc

a_nan : (w : ℕ) → 2139095040 < w % 2147483648 → of_bits binary32 w ≡ nan
a_nan w h = only_nan (of_bits binary32 w) (sym (nan_bits_is binary32 w) ∙ nan_bits_above binary32 w ∙ lt-ltb 2139095040 (w % 2147483648) h)

pub float_from_bits-result : goal.float_from_bits-result
float_from_bits-result c = no_nan c.args.word c.if-word-le2139095040.true

pub returns-else-word-le2139095040 : goal.returns-else-word-le2139095040
returns-else-word-le2139095040 c = nan_is ∙ sym (a_nan c.args.word c.if-word-le2139095040.false)
