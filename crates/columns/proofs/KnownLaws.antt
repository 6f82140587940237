-- Laws of known roots. Assumes nothing.
use Prim.Native.Nat.{zero, suc, ◌*◌, ◌^◌}
use native.Mathlib.Nat.{zero-lt-suc, lt_of_lt_of_le, mul-pos}
use native.Mathlib.Omega.{arith}
use mathlib.Core.Path.{◌≡◌, refl, sym, ap, ◌∙◌, subst}
use mathlib.Core.Bool.{Bool, true, false, false≢true, cond, ◌&&◌}
use lib.Dec.{T, ltb→lt}
use lib.Pow.{pow_pos}
use lib.IntN.{ℤ}
use borrow.Author.Tests.{lt-ltb, le-ltb}
use lib.Ieee.{Float, nan, inf, fin, lt, neg, of_bits, odd, binary32, fits, up, down}
use lib.Ieee.Fits.{up_pos}
use lib.Ieee.Positive.{positive, positive_of_value}
use Rattle.float.specs.Sqrt.{sqrt_of}
use Rattle.float.specs.Num.{f0, f1}
use Rattle.float.proofs.SqrtClaims.{root_is, has_units}
use Rattle.columns.specs.Known.{Known, found, absent, unknown}

-- above 0 and positive are the same of a finite value
above_positive : (x : Float) → T (positive x) → lt f0 x ≡ true
unfolding lt of_bits odd
above_positive nan p = absurd p
above_positive (inf s) p = absurd p
above_positive (fin true m e) p = absurd p
above_positive (fin false m e) p = let h = mul-pos (ltb→lt 0 m p) (up_pos e) in lt-ltb (0 * 1 * down e) (m * up e * 1) (omega arith)

zero_not-above : (e : ℤ) → lt f0 (fin false zero e) ≡ false
unfolding lt of_bits odd
zero_not-above e = le-ltb (0 * 1 * down e) (0 * up e * 1) (omega arith)

-- the root of a value above 0 is above 0
pub root-above : (x : Float) → T (fits binary32 x) → lt f0 x ≡ true → lt f0 (sqrt_of x) ≡ true
root-above nan f h = absurd (none-nan h)
  where
    none-nan : lt f0 nan ≡ true → ⊥
    none-nan e = false≢true (unfold lt of_bits odd in e)
root-above (inf true) f h = absurd (none-inf h)
  where
    none-inf : lt f0 (inf true) ≡ true → ⊥
    none-inf e = false≢true (unfold lt of_bits odd in e)
root-above (inf false) f h = unfold sqrt_of lt of_bits odd in refl
root-above (fin true m e) f h = absurd (none-fin h)
  where
    none-fin : lt f0 (fin true m e) ≡ true → ⊥
    none-fin e = false≢true (unfold lt of_bits odd in e)
root-above (fin false zero e) f h = absurd (none_zero h)
  where
    none_zero : lt f0 (fin false zero e) ≡ true → ⊥
    none_zero g = false≢true (sym (zero_not-above e) ∙ g)
root-above (fin false (suc m) e) f h =
    let p : T (positive (fin false (suc m) e)) = subst T (sym (lt-ltb 0 (suc m) (zero-lt-suc m))) tt in
    let u = has_units (fin false (suc m) e) f p in
    let r = root_is (fin false (suc m) e) _ f u.0 u.1 in
    above_positive (sqrt_of (fin false (suc m) e)) (positive_of_value (sqrt_of (fin false (suc m) e)) (r.q * 2 ^ r.k) (2 ^ 149) r.value (mul-pos (lt_of_lt_of_le (pow_pos 23) r.full) (pow_pos r.k)))

-- the three answers
pub known_by : (d x : Float) (near : Bool) → T (fits binary32 d) → (near ≡ true → x ≡ sqrt_of d) → Known (cond (near && lt f0 d) x (cond (lt f0 d) (neg f1) f0)) d
known_by d x near f h = go near refl (lt f0 d) refl
  where
    go : (n : Bool) → near ≡ n → (t : Bool) → lt f0 d ≡ t → Known (cond (n && t) x (cond t (neg f1) f0)) d
    go true a true b = found b (ap (lt f0) (h a) ∙ root-above d f b) (h a)
    go true a false b = absent b refl
    go false a true b = unknown refl
    go false a false b = absent b refl
