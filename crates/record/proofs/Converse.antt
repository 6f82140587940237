-- Bytes that were read as a record are written as they were, and a record is read of its own bytes alone. Assumes nothing.
use Prim.Native.Nat.{ℕ, suc, ◌+◌, ◌*◌, ◌/◌, ◌%◌, ◌^◌, ◌≤◌, ◌<◌}
use native.Mathlib.Nat.{div-div-eq-div-mul, mod-eq_of_lt}
use native.Mathlib.Omega.{arith}
use mathlib.Core.Bool.{true, not, false≢true}
use mathlib.Core.Path.{◌≡◌, refl, sym, ap, ◌∙◌}
use mathlib.Core.List.{List, [], ◌∷◌, ◌++◌}
use lib.ListN.{length, get_or, take, drop}
use lib.Seq.{drop-cons, drop-drop, get_or-take, get_or-drop, take-add}
use lib.Dec.{T}
use lib.Ieee.{Float, nan, inf, fin, binary32, is_nan, of_bits}
use lib.Ieee.Bits.{to_bits-of_bits}
use Rattle.float.specs.Small.{finite}
use Rattle.words.specs.Words.{word_bytes, float_bytes, word_from, float_from}
use Rattle.record.specs.Layout.{spot_width, old_width, floats4, old_bytes, record_bytes, record_with, record_from, old_from}
use Rattle.record.specs.Readable.{Finite}

-- ---- a record's own bytes

module _ (b : List ℕ) (at w : ℕ) where
  own_byte : (k : ℕ) → k < w → get_or (take w (drop at b)) k 0 ≡ get_or b (at + k) 0
  own_byte k h = get_or-take w (drop at b) k 0 h ∙ get_or-drop at b k 0

  own-word : (k : ℕ) → k + 4 ≤ w → word_from (take w (drop at b)) k ≡ word_from b (at + k)
  unfolding word_from
  own-word k h =
      let e1 : at + k + 1 ≡ at + (k + 1) = omega arith in
      let e2 : at + k + 2 ≡ at + (k + 2) = omega arith in
      let e3 : at + k + 3 ≡ at + (k + 3) = omega arith in
      rw (own_byte k (omega arith), own_byte (k + 1) (omega arith), own_byte (k + 2) (omega arith), own_byte (k + 3) (omega arith), e1, e2, e3)

  own-float : (k : ℕ) → k + 4 ≤ w → float_from (take w (drop at b)) k ≡ float_from b (at + k)
  unfolding float_from
  own-float k h = ap (of_bits binary32) (own-word k h)

  with-own : {dx dx' dy dy' : Float} → old_width ≤ w → dx ≡ dx' → dy ≡ dy' → record_with (take w (drop at b)) 0 dx dy ≡ record_with b at dx' dy'
  unfolding record_with
  with-own h x-is y-is = λ i. record {
    x = first i;
    y = own-float 4 (omega arith) i;
    sigma = own-float 8 (omega arith) i;
    peak = own-float 12 (omega arith) i;
    s0 = own-float 16 (omega arith) i;
    s1 = own-float 20 (omega arith) i;
    s2 = own-float 24 (omega arith) i;
    s3 = own-float 28 (omega arith) i;
    key = own-word 32 (omega arith) i;
    octave = own_byte 36 (omega arith) i;
    index = own_byte 37 (omega arith) i;
    polarity = own_byte 38 (omega arith) i;
    spare = own_byte 39 (omega arith) i;
    dx = x-is i;
    dy = y-is i;
  }
    where
      first : float_from (take w (drop at b)) 0 ≡ float_from b at
      first = let start : at + 0 ≡ at = omega arith in own-float 0 (omega arith) ∙ ap (float_from b) start

-- a record is read of the bytes of its width that begin where it does
pub record-own : (b : List ℕ) (at : ℕ) → record_from (take spot_width (drop at b)) 0 ≡ record_from b at
unfolding record_from
record-own b at = with-own b at spot_width (omega arith) (own-float b at spot_width 40 (omega arith)) (own-float b at spot_width 44 (omega arith))

-- and so is an old one
pub old_own : (b : List ℕ) (at : ℕ) → old_from (take old_width (drop at b)) 0 ≡ old_from b at
unfolding old_from
old_own b at = with-own b at old_width (omega arith) refl refl

-- equal bytes are read as equal records, wherever they stand
pub same-bytes-same-record : (b c : List ℕ) (at to : ℕ) → take spot_width (drop at b) ≡ take spot_width (drop to c) → record_from b at ≡ record_from c to
same-bytes-same-record b c at to e = sym (record-own b at) ∙ ap (λ (own : List ℕ). record_from own 0) e ∙ record-own c to

-- and as equal old ones
pub same-bytes-same_old : (b c : List ℕ) (at to : ℕ) → take old_width (drop at b) ≡ take old_width (drop to c) → old_from b at ≡ old_from c to
same-bytes-same_old b c at to e = sym (old_own b at) ∙ ap (λ (own : List ℕ). old_from own 0) e ∙ old_own c to

-- ---- one word

low_digit : (a q : ℕ) → a < 256 → (a + 256 * q) % 256 ≡ a
low_digit a q h = omega arith

high_digits : (a q : ℕ) → a < 256 → (a + 256 * q) / 256 ≡ q
high_digits a q h = omega arith

four_bytes : (a b c d : ℕ) → a < 256 → b < 256 → c < 256 → d < 256 → word_bytes (a + 256 * b + 65536 * c + 16777216 * d) ≡ a ∷ b ∷ c ∷ d ∷ []
unfolding word_bytes
four_bytes a b c d ha hb hc hd =
    let s : ℕ = c + 256 * d in
    let q : ℕ = b + 256 * s in
    let v : ℕ = a + 256 * b + 65536 * c + 16777216 * d in
    let v-is : v ≡ a + 256 * q = omega arith in
    let one : v / 256 ≡ q = ap (λ (n : ℕ). n / 256) v-is ∙ high_digits a q ha in
    let two : v / 65536 ≡ s = sym (div-div-eq-div-mul v 256 256) ∙ ap (λ (n : ℕ). n / 256) one ∙ high_digits b s hb in
    let three : v / 16777216 ≡ d = sym (div-div-eq-div-mul v 65536 256) ∙ ap (λ (n : ℕ). n / 256) two ∙ high_digits c d hc in
    let e0 : v % 256 ≡ a = ap (λ (n : ℕ). n % 256) v-is ∙ low_digit a q ha in
    let e1 : v / 256 % 256 ≡ b = ap (λ (n : ℕ). n % 256) one ∙ low_digit b s hb in
    let e2 : v / 65536 % 256 ≡ c = ap (λ (n : ℕ). n % 256) two ∙ low_digit c d hc in
    let e3 : v / 16777216 % 256 ≡ d = ap (λ (n : ℕ). n % 256) three ∙ mod-eq_of_lt hd in
    rw (e0, e1, e2, e3)

number_of_bytes : (a b c d : ℕ) → a < 256 → b < 256 → c < 256 → d < 256 → a + 256 * b + 65536 * c + 16777216 * d < 2 ^ 32
number_of_bytes a b c d ha hb hc hd = omega arith

finite_no_nan : (x : Float) → finite x ≡ true → T (not (is_nan x))
unfolding finite is_nan
finite_no_nan nan h = absurd (false≢true h)
finite_no_nan (inf s) h = absurd (false≢true h)
finite_no_nan (fin s m e) h = tt

-- ---- where all are bytes

module _ (b : List ℕ) (bytes : (k : ℕ) → get_or b k 0 < 256) where
  four_taken : (at : ℕ) → at + 4 ≤ length b → take 4 (drop at b) ≡ get_or b at 0 ∷ get_or b (at + 1) 0 ∷ get_or b (at + 2) 0 ∷ get_or b (at + 3) 0 ∷ []
  four_taken at h =
      let e1 : at + 1 ≡ suc at = omega arith in
      let e2 : at + 2 ≡ suc (suc at) = omega arith in
      let e3 : at + 3 ≡ suc (suc (suc at)) = omega arith in
      rw (e1, e2, e3, drop-cons b at 0 (omega arith), drop-cons b (suc at) 0 (omega arith), drop-cons b (suc (suc at)) 0 (omega arith), drop-cons b (suc (suc (suc at))) 0 (omega arith))

  word_kept : (at : ℕ) → at + 4 ≤ length b → word_bytes (word_from b at) ≡ take 4 (drop at b)
  unfolding word_from
  word_kept at h = four_bytes _ _ _ _ (bytes at) (bytes (at + 1)) (bytes (at + 2)) (bytes (at + 3)) ∙ sym (four_taken at h)

  -- any pattern but a NaN's
  float-kept : (at : ℕ) → at + 4 ≤ length b → finite (float_from b at) ≡ true → float_bytes (float_from b at) ≡ take 4 (drop at b)
  unfolding float_bytes float_from word_from
  float-kept at h f =
      ap word_bytes (to_bits-of_bits binary32 (word_from b at) (number_of_bytes _ _ _ _ (bytes at) (bytes (at + 1)) (bytes (at + 2)) (bytes (at + 3))) (finite_no_nan (float_from b at) f))
      ∙ word_kept at h

  joined : (n m k at to : ℕ) → at + n ≡ to → n + m ≡ k → take n (drop at b) ++ take m (drop to b) ≡ take k (drop at b)
  joined n m k at to e f = rw (← e, ← f, ← drop-drop n at b) (sym (take-add n m (drop at b)))

  floats-kept : (at p q r : ℕ) → p ≡ at + 4 → q ≡ at + 8 → r ≡ at + 12 → at + 16 ≤ length b
      → finite (float_from b at) ≡ true → finite (float_from b p) ≡ true → finite (float_from b q) ≡ true → finite (float_from b r) ≡ true
      → floats4 (float_from b at) (float_from b p) (float_from b q) (float_from b r) ≡ take 16 (drop at b)
  unfolding floats4
  floats-kept at p q r hp hq hr h f0 f1 f2 f3 =
      rw (float-kept at (omega arith) f0, float-kept p (omega arith) f1, float-kept q (omega arith) f2, float-kept r (omega arith) f3)
      (rw (joined 4 4 8 q r (omega arith) refl, joined 4 8 12 p q (omega arith) refl, joined 4 12 16 at p (omega arith) refl))

  bytes-kept : (at p q r : ℕ) → p ≡ at + 1 → q ≡ at + 2 → r ≡ at + 3 → at + 4 ≤ length b → get_or b at 0 ∷ get_or b p 0 ∷ get_or b q 0 ∷ get_or b r 0 ∷ [] ≡ take 4 (drop at b)
  bytes-kept at p q r hp hq hr h = rw (hp, hq, hr) (sym (four_taken at h))

  -- a record read with any displacement has the bytes of which it was read, where its other floats are finite
  pub old_kept : (at : ℕ) (dx dy : Float) → at + old_width ≤ length b → Finite (record_with b at dx dy) → old_bytes (record_with b at dx dy) ≡ take old_width (drop at b)
  unfolding old_bytes record_with
  old_kept at dx dy h f =
      rw (
        floats-kept at (at + 4) (at + 8) (at + 12) refl refl refl (omega arith) f.x f.y f.sigma f.peak,
        floats-kept (at + 16) (at + 20) (at + 24) (at + 28) (omega arith) (omega arith) (omega arith) (omega arith) f.s0 f.s1 f.s2 f.s3,
        word_kept (at + 32) (omega arith),
        bytes-kept (at + 36) (at + 37) (at + 38) (at + 39) (omega arith) (omega arith) (omega arith) (omega arith),
        joined 4 4 8 (at + 32) (at + 36) (omega arith) refl,
        joined 16 8 24 (at + 16) (at + 32) (omega arith) refl,
        joined 16 24 old_width at (at + 16) refl refl,
      )

  -- a finite record's bytes are those of which it was read
  pub record-kept : (at : ℕ) → at + spot_width ≤ length b → Finite (record_from b at) → finite (float_from b (at + 40)) ≡ true → finite (float_from b (at + 44)) ≡ true
      → record_bytes (record_from b at) ≡ take spot_width (drop at b)
  unfolding record_bytes record_from record_with
  record-kept at h f x y =
      ap (λ (front : List ℕ). front ++ (float_bytes (float_from b (at + 40)) ++ float_bytes (float_from b (at + 44)))) (old_kept at _ _ (omega arith) f)
      ∙ ap (λ (rest : List ℕ). take old_width (drop at b) ++ rest) (moved-kept at h x y)
      ∙ joined old_width 8 spot_width at (at + 40) refl refl
    where
      moved-kept : (at : ℕ) → at + spot_width ≤ length b → finite (float_from b (at + 40)) ≡ true → finite (float_from b (at + 44)) ≡ true
          → float_bytes (float_from b (at + 40)) ++ float_bytes (float_from b (at + 44)) ≡ take 8 (drop (at + 40) b)
      moved-kept at h x y = rw (float-kept (at + 40) (omega arith) x, float-kept (at + 44) (omega arith) y) (joined 4 4 8 (at + 40) (at + 44) (omega arith) refl)
