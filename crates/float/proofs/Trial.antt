-- A root's bits found one after another, the highest first, over whole numbers. Assumes nothing.
use mathlib.Core.Path.{◌≡◌, refl, sym, ◌∙◌, subst}
use Prim.Native.Nat.{ℕ, zero, suc, ◌+◌, ◌-◌, ◌*◌, ◌/◌, ◌^◌, ◌≤◌, ◌<◌}
use native.Mathlib.Nat.{mul-add, add-mul, mul_comm, mul-one, mul-pos, mul_left_comm, mul-mul-mul_comm, pow-succ'}
use native.Mathlib.Omega.{arith}
use lib.Pow.{pow_pos}
use Rattle.float.specs.Root.{isqrt}
use Rattle.float.proofs.Roots.{isqrt-is}

-- the square of the next bit, where k are left to try; none is left at 0
pub square : ℕ → ℕ
square zero = 0
square (suc k) = 2 ^ k * 2 ^ k

-- k bits of the root of n are left to try, and q has those found: root is q * 2 ^ k, rest what n has beyond the square of q, bit the next bit's square
pub record Found (n rest root bit : ℕ) : Type 0 where
  pub k : ℕ
  pub q : ℕ
  pub place : bit ≡ square k
  pub high : root ≡ q * 2 ^ k
  pub whole : rest + q * q ≡ n
  pub under : n < (q + 2 ^ k) * (q + 2 ^ k)

pub none_yet : (n : ℕ) → n < 2 ^ 48 → Found n n 0 0x4000_0000_0000
unfolding square
none_yet n h = record { k = 24; q = 0; place = refl; high = refl; whole = (let e : n + 0 ≡ n = omega arith in e); under = h }

-- ---- one bit b more
double : (k : ℕ) → 2 ^ suc k ≡ 2 * 2 ^ k
double k = pow-succ' 2 k

quarter : (k : ℕ) → square (suc k) / 4 ≡ square k
unfolding square
quarter zero = refl
quarter (suc k) =
    let e : 2 ^ suc k * 2 ^ suc k ≡ 4 * (2 ^ k * 2 ^ k) = rw double (mul-mul-mul_comm 2 (2 ^ k) 2 (2 ^ k)) in
    omega arith

twice : (q k : ℕ) → q * 2 ^ suc k ≡ 2 * (q * 2 ^ k)
twice q k = rw double (mul_left_comm q 2 (2 ^ k))

next_square : (q b : ℕ) → (q + b) * (q + b) ≡ q * q + 2 * (q * b) + b * b
next_square q b = simp (mul-add, add-mul) (rw (mul_comm b q) (omega arith))

-- a trial at q and the bit 2 ^ k
module _ (n rest root bit q k : ℕ) (place : bit ≡ square (suc k)) (high : root ≡ q * 2 ^ suc k) (whole : rest + q * q ≡ n) (under : n < (q + 2 ^ suc k) * (q + 2 ^ suc k)) where
  bit_is : bit ≡ 2 ^ k * 2 ^ k
  unfolding square
  bit_is = place

  root_is : root ≡ 2 * (q * 2 ^ k)
  root_is = high ∙ twice q k

  next_bit : bit / 4 ≡ square k
  next_bit = rw place (quarter k)

  taken : root + bit ≤ rest → Found n (rest - (root + bit)) (root / 2 + bit) (bit / 4)
  taken h = record {
    k = k;
    q = q + 2 ^ k;
    place = next_bit;
    high = rw add-mul (omega (arith, root_is, bit_is));
    whole = omega (arith, next_square q (2 ^ k), root_is, bit_is);
    under = (let e : q + 2 ^ suc k ≡ q + 2 ^ k + 2 ^ k = omega (arith, double k) in subst (λ (x : ℕ). n < x * x) e under);
  }

  left : rest < root + bit → Found n rest (root / 2) (bit / 4)
  left h = record {
    k = k;
    q = q;
    place = next_bit;
    high = omega (arith, root_is);
    whole = whole;
    under = omega (arith, next_square q (2 ^ k), root_is, bit_is);
  }

pub bit_taken : (n rest root bit : ℕ) → Found n rest root bit → 0 < bit → root + bit ≤ rest → Found n (rest - (root + bit)) (root / 2 + bit) (bit / 4)
bit_taken n rest root bit f = go f.k f.place f.high f.under
  where
    go : (k : ℕ) → bit ≡ square k → root ≡ f.q * 2 ^ k → n < (f.q + 2 ^ k) * (f.q + 2 ^ k) → 0 < bit → root + bit ≤ rest → Found n (rest - (root + bit)) (root / 2 + bit) (bit / 4)
    go zero e h u p = unfold square in absurd (let z : ⊥ = omega (arith, e) in z)
    go (suc k) e h u p = taken n rest root bit f.q k e h f.whole u

pub bit_left : (n rest root bit : ℕ) → Found n rest root bit → 0 < bit → rest < root + bit → Found n rest (root / 2) (bit / 4)
bit_left n rest root bit f = go f.k f.place f.high f.under
  where
    go : (k : ℕ) → bit ≡ square k → root ≡ f.q * 2 ^ k → n < (f.q + 2 ^ k) * (f.q + 2 ^ k) → 0 < bit → rest < root + bit → Found n rest (root / 2) (bit / 4)
    go zero e h u p = unfold square in absurd (let z : ⊥ = omega (arith, e) in z)
    go (suc k) e h u p = left n rest root bit f.q k e h f.whole u

pub all_tried : (n rest root : ℕ) → n < 2 ^ 48 → Found n rest root 0 → root ≡ isqrt n
all_tried n rest root b f = go f.k f.place f.high f.under
  where
    go : (k : ℕ) → 0 ≡ square k → root ≡ f.q * 2 ^ k → n < (f.q + 2 ^ k) * (f.q + 2 ^ k) → root ≡ isqrt n
    go zero e h u =
        let same : root ≡ f.q = h ∙ mul-one f.q in
        subst (λ (r : ℕ). r ≡ isqrt n) (sym same) (isqrt-is n f.q b (omega (arith, f.whole)) u)
    go (suc k) e h u = unfold square in absurd (let z : ⊥ = omega (arith, e, mul-pos (pow_pos k) (pow_pos k)) in z)
