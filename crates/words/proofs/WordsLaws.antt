-- Laws of a word's and a float's bytes: how many they are, and that what is written is read back. Assumes nothing.
use Prim.Native.Nat.{ℕ, zero, suc, ◌+◌, ◌*◌, ◌/◌, ◌%◌, ◌^◌, ◌≤◌, ◌<◌}
use native.Mathlib.Nat.{add_assoc, div-div-eq-div-mul, mod-eq_of_lt}
use native.Mathlib.Omega.{arith}
use mathlib.Core.Path.{◌≡◌, refl, sym, ap, ◌∙◌}
use mathlib.Core.Logic.{◌⊎◌, inl, inr}
use mathlib.Core.List.{List, [], ◌∷◌, ◌++◌, append_assoc}
use lib.ListN.{length, get_or, take, drop}
use lib.Seq.{get_or-append-add, sets, sets-eq, length-take-le}
use lib.Dec.{T}
use lib.Ieee.{Float, binary32, fits, of_bits, to_bits}
use lib.Ieee.Bits.{of_bits-to_bits, to_bits-lt}
use Rattle.words.specs.Words.{word_bytes, half_bytes, float_bytes, word_from, float_from, floats_at}
use Rattle.words.proofs.Stores.{sets-before, sets-past}

-- ---- lengths

pub length-word_bytes : (v : ℕ) → length (word_bytes v) ≡ 4
unfolding word_bytes
length-word_bytes v = refl

pub length-half_bytes : (v : ℕ) → length (half_bytes v) ≡ 2
unfolding half_bytes
length-half_bytes v = refl

pub length-float_bytes : (x : Float) → length (float_bytes x) ≡ 4
unfolding float_bytes word_bytes
length-float_bytes x = refl

pub length-floats_at : (n : ℕ) (b : List ℕ) (i : ℕ) → length (floats_at n b i) ≡ n
unfolding floats_at
length-floats_at zero b i = refl
length-floats_at (suc n) b i = ap suc (length-floats_at n b (suc i))

-- ---- reading past a front

pub word_from-append : (front b : List ℕ) (k : ℕ) → word_from (front ++ b) (length front + k) ≡ word_from b k
unfolding word_from
word_from-append front b k = simp (add_assoc, get_or-append-add)

pub float_from-append : (front b : List ℕ) (k : ℕ) → float_from (front ++ b) (length front + k) ≡ float_from b k
unfolding float_from
float_from-append front b k = ap (of_bits binary32) (word_from-append front b k)

-- ---- one float more

pub floats-next : (k : ℕ) (b : List ℕ) (i : ℕ) → floats_at k b i ++ (float_from b (4 * (i + k)) ∷ []) ≡ floats_at (k + 1) b i
unfolding floats_at
floats-next zero b i = let e : i + 0 ≡ i = omega arith in rw e
floats-next (suc k) b i =
    let e : i + suc k ≡ suc i + k = omega arith in
    let s : suc k + 1 ≡ suc (k + 1) = omega arith in
    rw (e, s, ← floats-next k b (suc i))

-- ---- written and read

digit : (n : ℕ) → n % 256 + 256 * (n / 256) ≡ n
digit n = omega arith

summed : (v p q s a b c : ℕ) → a + 256 * p ≡ v → b + 256 * q ≡ p → c + 256 * s ≡ q → a + 256 * b + 65536 * c + 16777216 * s ≡ v
summed v p q s a b c i j k = omega arith

four_digits : (v : ℕ) → v < 2 ^ 32 → v % 256 + 256 * (v / 256 % 256) + 65536 * (v / 65536 % 256) + 16777216 * (v / 16777216 % 256) ≡ v
four_digits v h =
    let p : ℕ = v / 256 in
    let q : ℕ = v / 65536 in
    let s : ℕ = v / 16777216 in
    let q-is : p / 256 ≡ q = div-div-eq-div-mul v 256 256 in
    let s-is : q / 256 ≡ s = div-div-eq-div-mul v 65536 256 in
    let last : s % 256 ≡ s = mod-eq_of_lt (omega arith) in
    rw last (summed v p q s (v % 256) (p % 256) (q % 256) (digit v) (rw q-is at (digit p)) (rw s-is at (digit q)))

pub word_from-word_bytes : (v : ℕ) (rest : List ℕ) → v < 2 ^ 32 → word_from (word_bytes v ++ rest) 0 ≡ v
unfolding word_from word_bytes
word_from-word_bytes v rest h = four_digits v h

-- NaN too, which is written as the one pattern 0x7fc00000. Among the values there is one NaN: which NaN pattern the bytes held, its sign and its payload,
-- is not kept.
pub float_from-float_bytes : (x : Float) (rest : List ℕ) → T (fits binary32 x) → float_from (float_bytes x ++ rest) 0 ≡ x
unfolding float_from float_bytes
float_from-float_bytes x rest f = ap (of_bits binary32) (word_from-word_bytes (to_bits binary32 x) rest (to_bits-lt binary32 x f)) ∙ of_bits-to_bits binary32 x f

-- ---- a word after a run of stores

-- one that it does not reach is kept
pub word_kept : (vs l : List ℕ) (at from : ℕ) → (from + 4 ≤ at) ⊎ (at + length vs ≤ from) → word_from (sets l at vs) from ≡ word_from l from
unfolding word_from
word_kept vs l at from h =
    let first : from + 0 ≡ from = omega arith in
    let byte : (i : ℕ) → i < 4 → get_or (sets l at vs) (from + i) 0 ≡ get_or l (from + i) 0 = (λ i less. outside i less h) in
    rw (rw first at (byte 0 (omega arith)), byte 1 (omega arith), byte 2 (omega arith), byte 3 (omega arith))
  where
    outside : (i : ℕ) → i < 4 → (from + 4 ≤ at) ⊎ (at + length vs ≤ from) → get_or (sets l at vs) (from + i) 0 ≡ get_or l (from + i) 0
    outside i less (inl g) = sets-before vs l at (from + i) 0 (omega arith)
    outside i less (inr g) = sets-past vs l at (from + i) 0 (omega arith)

-- one that is stored is read back
pub word-own : (v : ℕ) (l : List ℕ) (at : ℕ) → v < 2 ^ 32 → at + 4 ≤ length l → word_from (sets l at (word_bytes v)) at ≡ v
word-own v l at small h =
    let vs : List ℕ = word_bytes v in
    let four : length vs ≡ 4 = length-word_bytes v in
    let rest : List ℕ = drop (at + length vs) l in
    let front : length (take at l) + 0 ≡ at = omega (arith, length-take-le at l (omega arith)) in
    ap (λ (b : List ℕ). word_from b at) (sets-eq vs l at (omega arith) ∙ append_assoc (take at l) vs rest)
    ∙ ap (word_from (take at l ++ (vs ++ rest))) (sym front)
    ∙ word_from-append (take at l) (vs ++ rest) 0
    ∙ word_from-word_bytes v rest small
