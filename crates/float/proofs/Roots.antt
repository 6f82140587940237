-- The definitions of specs/Root.antt have the properties that name them. Assumes nothing.
use mathlib.Core.Path.{◌≡◌, sym, subst}
use Prim.Native.Nat.{ℕ, zero, suc, ◌+◌, ◌-◌, ◌*◌, ◌/◌, ◌^◌, ◌≤◌, ◌<◌, zero-le}
use native.Mathlib.Nat.{lt_irrefl, le_trans, le_refl, le-suc, le_of_eq, mul-suc, lt_of_le_of_lt, lt_of_not-le, not-le_of_lt, le_antisymm, mul-le-mul, le_of_suc-le-suc, mul-add, add-mul, mul-one, one-mul, suc-mul, mul-mul-mul_comm, pow-succ'}
use native.Mathlib.Numerals.{add-one}
use native.Mathlib.Omega.{arith}
use mathlib.Core.Bool.{Bool, true, false, not, cond}
use lib.Dec.{T, leb, leb→le, nleb→lt}
use borrow.Author.Tests.{le-leb, lt-leb}
use Rattle.float.specs.Root.{Root, digit, root_by, isqrt, nearer, near_root}

-- two roots of one number are equal
root-le : (n r s : ℕ) → r * r ≤ n → n < suc s * suc s → r ≤ s
root-le n r s l h = le_of_suc-le-suc (lt_of_not-le (λ (g : suc s ≤ r). not-le_of_lt (lt_of_le_of_lt l h) (mul-le-mul g g)))

pub root_unique : (n r s : ℕ) → Root n r → Root n s → r ≡ s
root_unique n r s p q = le_antisymm (root-le n r s p.low q.high) (root-le n s r q.low p.high)

-- ---- `root_by` is the root
digit-root : (n r : ℕ) → r * r ≤ n → n < suc (suc r) * suc (suc r) → Root n (digit n r)
unfolding digit
digit-root n r l h = go (leb (suc r * suc r) n) (leb→le (suc r * suc r) n) (nleb→lt (suc r * suc r) n)
  where
    go : (b : Bool) → (T b → suc r * suc r ≤ n) → (T (not b) → n < suc r * suc r) → Root n (cond b (suc r) r)
    go true p q = record { low = p tt; high = h }
    go false p q = record { low = l; high = q tt }

four : (s : ℕ) → 2 * s * (2 * s) ≡ 4 * (s * s)
four s = mul-mul-mul_comm 2 s 2 s

quarter_lt : (n p t : ℕ) → t ≡ 4 * p → n < t → n / 4 < p
quarter_lt n p t e h = omega arith

four_le : (n S t : ℕ) → t ≡ 4 * S → S ≤ n / 4 → t ≤ n
four_le n S t e h = omega arith

four_lt : (n S t : ℕ) → t ≡ 4 * S → n / 4 < S → n < t
four_lt n S t e h = omega arith

twice_suc : (s : ℕ) → suc (suc (2 * s)) ≡ 2 * suc s
twice_suc s = omega arith

pub root_by-root : (k n : ℕ) → n < 4 ^ k → Root n (root_by k n)
unfolding root_by
root_by-root zero n h = record { low = zero-le; high = h }
root_by-root (suc k) n h =
    let i = root_by-root k (n / 4) (quarter_lt n (4 ^ k) (4 ^ suc k) (pow-succ' 4 k) h) in
    let s : ℕ = root_by k (n / 4) in
    digit-root n (2 * s) (four_le n (s * s) (2 * s * (2 * s)) (four s) i.low)
    (subst (λ (t : ℕ). n < t * t) (sym (twice_suc s)) (four_lt n (suc s * suc s) (2 * suc s * (2 * suc s)) (four (suc s)) i.high))

pub isqrt-root : (n : ℕ) → n < 2 ^ 48 → Root n (isqrt n)
unfolding isqrt
isqrt-root n h = root_by-root 24 n h

-- whatever has the property is `isqrt`
pub isqrt-is : (n r : ℕ) → n < 2 ^ 48 → r * r ≤ n → n < (r + 1) * (r + 1) → r ≡ isqrt n
isqrt-is n r b l h = root_unique n r (isqrt n) (record { low = l; high = rw add-one at h }) (isqrt-root n b)

-- the root of a number below s * s is below s
pub root_below : (n r s : ℕ) → Root n r → n < s * s → r < s
root_below n r s p h = lt_of_not-le (λ (g : s ≤ r). not-le_of_lt h (le_trans (mul-le-mul g g) p.low))

pub root-above : (n r s : ℕ) → Root n r → s * s ≤ n → s ≤ r
root-above n r s p h = root-le n s r h p.high

pub root_facts : (n r : ℕ) → n < 2 ^ 48 → r ≡ isqrt n → (r * r ≤ n) × (r < 2 ^ 24)
root_facts n r b e =
    let i : Root n r = subst (λ (x : ℕ). Root n x) (sym e) (isqrt-root n b) in
    (i.low, root_below n r (2 ^ 24) i b)

pub near_down : (n r : ℕ) → r ≡ isqrt n → n ≤ r * r + r → r ≡ near_root n
unfolding near_root nearer
near_down n r e h = rw (← e, le-leb n (r * r + r) h)

pub near_up : (n r : ℕ) → r ≡ isqrt n → r * r + r < n → r + 1 ≡ near_root n
unfolding near_root nearer
near_up n r e h = rw (← e, lt-leb n (r * r + r) h, add-one)

-- ---- how large `near_root` is
nearer-le : (n r : ℕ) → nearer n r ≤ suc r
unfolding nearer
nearer-le n r = go (leb n (r * r + r))
  where
    go : (b : Bool) → cond b r (suc r) ≤ suc r
    go true = le-suc r
    go false = le_refl (suc r)

nearer_ge : (n r : ℕ) → r ≤ nearer n r
unfolding nearer
nearer_ge n r = go (leb n (r * r + r))
  where
    go : (b : Bool) → r ≤ cond b r (suc r)
    go true = le_refl r
    go false = le-suc r

pub near_le : (n : ℕ) → n < 2 ^ 48 → near_root n ≤ 2 ^ 24
unfolding near_root
near_le n h = le_trans (nearer-le n (isqrt n)) (root_below n (isqrt n) (2 ^ 24) (isqrt-root n h) h)

pub near-low : (n : ℕ) → n < 2 ^ 48 → 2 ^ 46 ≤ n → 2 ^ 23 ≤ near_root n
unfolding near_root
near-low n h l = le_trans (root-above n (isqrt n) (2 ^ 23) (isqrt-root n h) l) (nearer_ge n (isqrt n))

nearer-high : (n r : ℕ) → r < 2 ^ 24 → n ≤ (2 ^ 24 - 1) * 2 ^ 24 → nearer n r < 2 ^ 24
unfolding nearer
nearer-high n r h l = go (leb n (r * r + r)) (nleb→lt n (r * r + r))
  where
    last : 2 ^ 24 ≤ suc r → r * r + r < n → ⊥
    last g k = not-le_of_lt k (le_trans l (le_trans (mul-le-mul {n₁ = 2 ^ 24 - 1} {n₂ = r} (omega arith) g) (le_of_eq (mul-suc r r))))

    go : (b : Bool) → (T (not b) → r * r + r < n) → cond b r (suc r) < 2 ^ 24
    go true q = h
    go false q = lt_of_not-le (λ (g : 2 ^ 24 ≤ suc r). last g (q tt))

pub near-high : (n : ℕ) → n < 2 ^ 48 → n ≤ (2 ^ 24 - 1) * 2 ^ 24 → near_root n < 2 ^ 24
unfolding near_root
near-high n h l = nearer-high n (isqrt n) (root_below n (isqrt n) (2 ^ 24) (isqrt-root n h) h) l

-- ---- `near_root` is nearest, said by squares: (q - 1/2) ^ 2 < n < (q + 1/2) ^ 2, times 4
odd_square : (s : ℕ) → (2 * s + 1) * (2 * s + 1) ≡ 4 * (s * s) + 4 * s + 1
odd_square s = simp (mul-add, add-mul, mul-one, one-mul) (rw four (omega arith))

pub suc_square : (s : ℕ) → suc s * suc s ≡ s * s + 2 * s + 1
suc_square s = simp (suc-mul, mul-suc) (omega arith)

pub record Nearest (n q : ℕ) : Type 0 where
  pub low : (2 * q - 1) * (2 * q - 1) < 4 * n
  pub high : 4 * n < (2 * q + 1) * (2 * q + 1)

before : (s : ℕ) → 2 * suc s - 1 ≡ 2 * s + 1
before s = omega arith

nearest_of_lem : (n s : ℕ) → 4 * (s * s) + 4 * s + 1 < 4 * n → n ≤ suc s * suc s + suc s → Nearest n (suc s)
nearest_of_lem n s l h = record {
  low = subst (λ (x : ℕ). x * x < 4 * n) (sym (before s)) (rw odd_square l);
  high = rw odd_square (omega arith);
}

nearer_nearest : (n r : ℕ) → Root n r → 0 < nearer n r → Nearest n (nearer n r)
unfolding nearer
nearer_nearest n r i = go (leb n (r * r + r)) (leb→le n (r * r + r)) (nleb→lt n (r * r + r))
  where
    down : (r : ℕ) → 0 < r → r * r ≤ n → n ≤ r * r + r → Nearest n r
    down zero p l h = absurd (lt_irrefl 0 p)
    down (suc s) p l h = nearest_of_lem n s (let e = suc_square s in omega arith) h

    go : (b : Bool) → (T b → n ≤ r * r + r) → (T (not b) → r * r + r < n) → 0 < cond b r (suc r) → Nearest n (cond b r (suc r))
    go true p q z = down r z i.low (p tt)
    go false p q z = nearest_of_lem n r (let h = q tt in omega arith) (let h = i.high in omega arith)

pub near_nearest : (n : ℕ) → n < 2 ^ 48 → 0 < near_root n → Nearest n (near_root n)
unfolding near_root
near_nearest n h p = nearer_nearest n (isqrt n) (isqrt-root n h) p
