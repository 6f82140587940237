-- A whole number off both ends of a side stays on the side when a displacement that passes is added. Assumes nothing.
use Prim.Native.Nat.{ℕ, zero, suc, ◌+◌, ◌-◌, ◌*◌, ◌^◌, ◌≤◌, ◌<◌}
use native.Mathlib.Omega.{arith}
use native.Mathlib.Nat.{mul-pos, mul-le-mul_right, mul_assoc, mul_comm, le_trans, le_of_eq}
use mathlib.Core.Path.{◌≡◌, refl, sym, ap, ◌∙◌, subst}
use mathlib.Core.Bool.{Bool, true, false, false≢true}
use lib.IntN.{ℤ, pos, negsuc}
use lib.Dec.{T}
use lib.Count.{count_trailing_zeros}
use lib.Ieee.{Float, nan, inf, fin, binary32, up, down, round, sum, add, lt, le, of_int, of_bits, of_fields, odd}
use lib.Ieee.Exact.{HasValue}
use lib.Ieee.Bits.{is_true}
use lib.Ieee.Fits.{down_pos}
use lib.Ieee.Back.{round_whole}
use lib.Ieee.Order.{round_mono}
use borrow.Author.Tests.{ltb-false, le-ltb}
use Rattle.float.specs.Num.{◌⊕◌, f0, f0_6}
use Rattle.float.specs.Small.{finite, abs_of}
use Rattle.float.proofs.Finite.{value-finite, between_finite}
use Rattle.float.proofs.Floats.{zero_rounds}
use Rattle.refine.specs.Refine.{nearby}
use Rattle.moves.proofs.MovesLaws.{nearby_bounds}
use Rattle.record.specs.Readable.{within, on_side}

-- ---- a displacement that passes is at most 1 in size

limit_is : f0_6 ≡ fin false 5033165 (negsuc 22)
unfolding of_bits of_fields odd count_trailing_zeros
limit_is = refl

at_most_one : (n : ℕ) (e : ℤ) → lt (fin false 5033165 (negsuc 22)) (fin false n e) ≡ false → n * up e ≤ down e
unfolding lt
at_most_one n e h =
    let b = ltb-false (5033165 * 1 * down e) (n * up e * 2 ^ 23) h in
    omega arith

-- ---- the sum rounds a fraction between two whole numbers

-- x is the rounding of a fraction that lies between low and high
record Rounds (low high : ℕ) (x : Float) : Type 0 where
  part : ℕ
  whole : ℕ
  some : 0 < whole
  not-below : low * whole ≤ part
  not-above : part ≤ high * whole
  is : x ≡ round binary32 false part whole

-- the sizes of the terms are a / b, which is c + 1, and d / b, which is at most 1
sum_rounds : (c a d b : ℕ) (sign : Bool) → 0 < b → a ≡ suc c * b → d ≤ b → Rounds c (c + 2) (sum binary32 false a sign d b)
unfolding sum
sum_rounds c a d b false some is most = record { part = a + d; whole = b; some = some; not-below = omega arith; not-above = omega arith; is = refl }
sum_rounds c a d b true some is most =
    let less : d ≤ a = omega arith in
    record { part = a - d; whole = b; some = some; not-below = omega arith; not-above = omega arith; is = rw (le-ltb a d less) }

displaced_rounds : (c : ℕ) (x d : Float) → HasValue x false (suc c) 1 → nearby d ≡ true → Rounds c (c + 2) (x ⊕ d)
unfolding add nearby finite abs_of
displaced_rounds c nan d v h = absurd v
displaced_rounds c (inf s) d v h = absurd v
displaced_rounds c (fin s m e) nan v h = absurd (false≢true h)
displaced_rounds c (fin s m e) (inf t) v h = absurd (false≢true h)
displaced_rounds c (fin s m e) (fin t n d) v h =
    let small : n * up d ≤ down d = at_most_one n d (rw limit_is at (nearby_bounds (fin t n d) h).1) in
    let value : m * up e ≡ suc c * down e = omega (arith, v.1) in
    let is : m * up e * down d ≡ suc c * (down e * down d) = ap (λ (z : ℕ). z * down d) value ∙ mul_assoc (suc c) (down e) (down d) in
    let most : n * up d * down e ≤ down e * down d = le_trans (mul-le-mul_right (down e) small) (le_of_eq (mul_comm (down d) (down e))) in
    rw v.0 (sum_rounds c (m * up e * down d) (n * up d * down e) (down e * down d) t (mul-pos (down_pos e) (down_pos d)) is most)

-- ---- what rounds a fraction between two whole numbers is finite and on the side

rounds_on_side : (n c : ℕ) (x : Float) → c + 2 < n → n ≤ 16777216 → Rounds c (c + 2) x → (finite x ≡ true) × (on_side n x ≡ true)
unfolding on_side within of_int
rounds_on_side n c x inside few r =
    let last : Float = round binary32 false (n - 1) 1 in
    let most : (c + 2) * r.whole ≤ (n - 1) * r.whole = mul-le-mul_right r.whole (omega arith) in
    let low : T (le f0 x) = subst (λ (z : Float). T (le f0 z)) (sym r.is) (rw zero_rounds (round_mono binary32 0 1 r.part r.whole (omega arith) r.some (omega arith))) in
    let high : T (le x last) = subst (λ (z : Float). T (le z last)) (sym r.is) (round_mono binary32 r.part r.whole (n - 1) 1 r.some (omega arith) (omega arith)) in
    let end = value-finite last false (n - 1) 1 (round_whole binary32 false (n - 1) (omega arith)) in
    (between_finite x last low high end, rw (is_true (le f0 x) low, is_true (le x last) high))

rounds_not_below : (c : ℕ) (x : Float) → Rounds c (c + 2) x → T (le (of_int binary32 (pos c)) x)
unfolding of_int
rounds_not_below c x r =
    subst (λ (z : Float). T (le (round binary32 false c 1) z)) (sym r.is) (round_mono binary32 c 1 r.part r.whole (omega arith) r.some (let l = r.not-below in omega arith))

-- A pixel c, not the first of its side, moved by a displacement that passes, is not before the pixel before it.
pub displaced_not_below : (c : ℕ) (d : Float) → 0 < c → c ≤ 16777216 → nearby d ≡ true → T (le (of_int binary32 (pos (c - 1))) (of_int binary32 (pos c) ⊕ d))
unfolding of_int
displaced_not_below zero d low few h = let z : ⊥ = omega arith in absurd z
displaced_not_below (suc c) d low few h =
    let same : suc c - 1 ≡ c = omega arith in
    rw same (rounds_not_below c _ (displaced_rounds c (round binary32 false (suc c) 1) d (round_whole binary32 false (suc c) few) h))

-- A pixel c of a side of n, neither the first nor the last, moved by a displacement that passes, is finite and lies on the side: for sides to 2^24, up to which a whole number is a value of f32.
pub displaced_on_side : (n c : ℕ) (d : Float) → 0 < c → c + 1 < n → n ≤ 16777216 → nearby d ≡ true
    → (finite (of_int binary32 (pos c) ⊕ d) ≡ true) × (on_side n (of_int binary32 (pos c) ⊕ d) ≡ true)
unfolding of_int
displaced_on_side n zero d low high few h = let z : ⊥ = omega arith in absurd z
displaced_on_side n (suc c) d low high few h =
    rounds_on_side n c _ (omega arith) few (displaced_rounds c (round binary32 false (suc c) 1) d (round_whole binary32 false (suc c) (omega arith)) h)
