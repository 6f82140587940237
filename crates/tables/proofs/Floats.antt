-- What stands above NaN, and above a positive number.
use mathlib.Core.Path.{◌≡◌, refl}
use mathlib.Core.Bool.{true, false}
use Prim.Native.Nat.{◌*◌, ◌<◌}
use native.Mathlib.Nat.{zero-mul}
use native.Mathlib.Omega.{arith}
use borrow.Author.Tests.{lt-ltb, ltb-true}
use lib.Ieee.{Float, nan, inf, fin, up, down, lt, of_bits, odd}
use lib.Ieee.Positive.{first_pos}
use Rattle.float.specs.Num.{f0}

pub no_nan-above : (x : Float) → lt x nan ≡ false
unfolding lt
no_nan-above nan = refl
no_nan-above (inf s) = refl
no_nan-above (fin s m e) = refl

pub above_positive : (x y : Float) → lt f0 x ≡ true → lt x y ≡ true → lt f0 y ≡ true
unfolding lt of_bits odd
above_positive nan y p q = cc
above_positive (inf true) y p q = cc
above_positive (inf false) nan p q = cc
above_positive (inf false) (inf t) p q = cc
above_positive (inf false) (fin t n d) p q = cc
above_positive (fin true m e) y p q = cc
above_positive (fin false m e) nan p q = cc
above_positive (fin false m e) (inf t) p q = q
above_positive (fin false m e) (fin true n d) p q = cc
above_positive (fin false m e) (fin false n d) p q =
    let some : 0 < n * up d * down e = omega (arith, ltb-true (m * up e * down d) (n * up d * down e) q) in
    let more : 0 < n * up d = first_pos (n * up d) (down e) some in
    lt-ltb (0 * 1 * down d) (n * up d * 1) (omega (arith, zero-mul (down d)))
