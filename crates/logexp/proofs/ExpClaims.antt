-- What is claimed of exp: NaN gives NaN and nothing else does; either zero 1; 89 and above infinity; -104 and below +0; never negative. Assumes nothing.
use mathlib.Core.Path.{◌≡◌, refl, sym, subst}
use Prim.Native.Nat.{ℕ, ◌+◌, ◌-◌, ◌*◌, ◌/◌, ◌^◌, ◌≤◌, ◌<◌}
use native.Mathlib.Omega.{arith}
use mathlib.Core.Bool.{Bool, true, false, not, cond, ◌&&◌}
use lib.IntN.{pos}
use lib.Dec.{T, ltb, eqb, ltb→lt, eqb→eq, not_T}
use borrow.Author.Tests.{ltb-false}
use lib.Ieee.{Float, nan, inf, fin, binary32, up, down, of_bits, to_bits, fits, is_nan, le, ne}
use lib.Ieee.Compare.{differs_from_itself}
use lib.Ieee.Fits.{down_pos, and_l, and_r}
use lib.Ieee.Bits.{is_true, is_false}
use lib.Ieee.Exact.{HasValue}
use Rattle.float.specs.Num.{f0, f1}
use Rattle.float.specs.Pattern.{units_of}
use Rattle.logexp.specs.Exp.{f89, f_104, ln2_in30, bias_before_carry, fixed_of, series_of, up_count, down_count, capped, below_one, exp_up, exp_down, exp_of}
use Rattle.float.specs.Claims.{not_negative}
use Rattle.float.proofs.Floats.{ne_self}
use Rattle.float.proofs.Patterns.{plus-value}
use Rattle.logexp.proofs.Places.{above_minus_104}
use Rattle.logexp.proofs.Steps.{series_lt, below_lt, fixed_lt}

pub exp_nan : exp_of nan ≡ nan
unfolding exp_of ne
exp_nan = refl

pub exp_zero : (s : Bool) → exp_of (fin s 0 (pos 0)) ≡ f1
unfolding exp_of exp_up exp_down fixed_of series_of capped ne le to_bits of_bits
exp_zero true = refl
exp_zero false = refl

-- 89 and above, +infinity among them
pub exp_from_89 : (x : Float) → T (le f89 x) → exp_of x ≡ inf false
unfolding exp_of
exp_from_89 x t = rw (is_false (ne x x) (not_T (ne x x) number), is_true (le f89 x) t)
  where
    nothing : T (le f89 nan) → ⊥
    nothing u = unfold le in u

    number : T (ne x x) → ⊥
    number d = nothing (subst (λ (y : Float). T (le f89 y)) (differs_from_itself x d) t)

-- -104 and below, -infinity among them
tests_104 : (x : Float) → T (le x f_104) → (ne x x ≡ false) × (le f89 x ≡ false)
unfolding le ne is_nan
tests_104 nan t = absurd t
tests_104 (inf true) t = (refl, refl)
tests_104 (inf false) t = absurd t
tests_104 (fin true m e) t = (
  ne_self (fin true m e),
  is_false (eqb (89 * 1 * down e) (m * up e * 1) && eqb (89 * 1 * down e) 0)
      (not_T (eqb (89 * 1 * down e) (m * up e * 1) && eqb (89 * 1 * down e) 0) (λ k. clash (down e) (down_pos e) (eqb→eq (89 * 1 * down e) 0 (and_r (eqb (89 * 1 * down e) (m * up e * 1)) (eqb (89 * 1 * down e) 0) k)))),
)
  where
    clash : (d : ℕ) → 0 < d → 89 * 1 * d ≡ 0 → ⊥
    clash d p e = omega arith
tests_104 (fin false m e) t =
    absurd (clash (m * up e) (down e) (down_pos e) (eqb→eq (m * up e * 1) (13 * 2 ^ 3 * down e) (and_l (eqb (m * up e * 1) (13 * 2 ^ 3 * down e)) (eqb (m * up e * 1) 0) t)) (eqb→eq (m * up e * 1) 0 (and_r (eqb (m * up e * 1) (13 * 2 ^ 3 * down e)) (eqb (m * up e * 1) 0) t)))
  where
    clash : (n d : ℕ) → 0 < d → n * 1 ≡ 13 * 2 ^ 3 * d → n * 1 ≡ 0 → ⊥
    clash n d p i j = omega arith

pub exp_to_minus_104 : (x : Float) → T (le x f_104) → exp_of x ≡ f0
unfolding exp_of
exp_to_minus_104 x t = let e = tests_104 x t in rw (e.0, e.1, is_true (le x f_104) t)

-- ---- an answer to a number is a number without a sign
plain : Float → Bool
plain nan = false
plain (inf s) = not s
plain (fin s m e) = not s

of_value : (x : Float) (a c : ℕ) → HasValue x false a c → T (plain x)
unfolding plain
of_value nan a c v = absurd v
of_value (inf s) a c v = absurd v
of_value (fin s m e) a c v = subst (λ (b : Bool). T (not b)) (sym v.0) tt

zero_plain : T (plain f0)
unfolding plain of_bits
zero_plain = tt

one_plain : T (plain f1)
unfolding plain of_bits
one_plain = tt

of_pattern : (t : ℕ) → t < 0x7f80_0000 → T (plain (of_bits binary32 t))
of_pattern t h = of_value (of_bits binary32 t) (units_of t) (2 ^ 149) (plus-value t h)

capped_plain : (t : ℕ) → T (plain (capped t))
unfolding capped plain
capped_plain t = go (ltb t 0x7f80_0000) (ltb→lt t 0x7f80_0000)
  where
    go : (b : Bool) → (T b → t < 0x7f80_0000) → T (plain (cond b (of_bits binary32 t) (inf false)))
    go true p = of_pattern t (p tt)
    go false p = tt

down_plain : (a : ℕ) → a < 104 * 2 ^ 30 → T (plain (exp_down a))
unfolding exp_down plain
down_plain a h = go (eqb a 0)
  where
    left : ℕ
    left = down_count a * ln2_in30 - a

    left_lt : left < 2 ^ 30
    left_lt = omega arith

    first : 1 ≤ down_count a
    first = omega arith

    last : down_count a < 152
    last = omega arith

    go : (b : Bool) → T (plain (cond b f1 (of_bits binary32 (below_one (down_count a) (series_of left)))))
    go true = one_plain
    go false = of_pattern (below_one (down_count a) (series_of left)) (below_lt (down_count a) (series_of left) first last (series_lt left left_lt))

exp_plain : (x : Float) → T (fits binary32 x) → ne x x ≡ false → T (plain (exp_of x))
unfolding exp_of exp_up plain
exp_plain x h n = rw n (go (le f89 x) (le x f_104) (ltb b 0x8000_0000) refl refl)
  where
    b : ℕ
    b = to_bits binary32 x

    go : (p q r : Bool) → le x f_104 ≡ q → ltb b 0x8000_0000 ≡ r
        → T (plain (cond p (inf false) (cond q f0 (cond r (exp_up (fixed_of b)) (exp_down (fixed_of (b - 0x8000_0000)))))))
    go true q r i j = tt
    go false true r i j = zero_plain
    go false false true i j = capped_plain ((up_count (fixed_of b) + bias_before_carry) * 2 ^ 23 + series_of (fixed_of b - up_count (fixed_of b) * ln2_in30) / 2 ^ 7)
    go false false false i j = down_plain (fixed_of (b - 0x8000_0000)) (fixed_lt (b - 0x8000_0000) (above_minus_104 x h n i (ltb-false b 0x8000_0000 j)))

pub exp_never_negative : (x : Float) → T (fits binary32 x) → T (not_negative (exp_of x))
exp_never_negative x h = go (ne x x) refl
  where
    weaken : (y : Float) → T (plain y) → T (not_negative y)
    weaken nan t = tt
    weaken (inf s) t = unfold plain in t
    weaken (fin s m e) t = unfold plain in t

    go : (b : Bool) → ne x x ≡ b → T (not_negative (exp_of x))
    go true e = subst (λ (y : Float). T (not_negative (exp_of y))) (sym (differs_from_itself x (subst T (sym e) tt))) (subst (λ (y : Float). T (not_negative y)) (sym exp_nan) tt)
    go false e = weaken (exp_of x) (exp_plain x h e)

-- NaN comes out only where NaN goes in
pub exp_nan-only : (x : Float) → T (fits binary32 x) → exp_of x ≡ nan → x ≡ nan
exp_nan-only x h k = go (ne x x) refl
  where
    go : (b : Bool) → ne x x ≡ b → x ≡ nan
    go true e = differs_from_itself x (subst T (sym e) tt)
    go false e = absurd (unfold plain in subst (λ (y : Float). T (plain y)) k (exp_plain x h e))
