-- Which of three numbers is nearest to a root, by the square of the first. Assumes nothing.
use Rattle.std.proofs.Common.{◌≡◌, ℕ, zero, suc, ◌+◌, ◌*◌, ◌^◌, ◌<◌, ◌≤◌, Bool, true, false, not, T, leb, sym, ◌∙◌, add-one, arith, leb→le}
use lib.Dec.{nleb→lt}
use Rattle.float.specs.Root.{isqrt, near_root}
use Rattle.float.proofs.Roots.{root_unique, isqrt-root, suc_square, near_down, near_up}

above : (n q : ℕ) → n < 2 ^ 48 → q * q ≤ n → n ≤ q * q + q → q ≡ near_root n
above n q b l h =
    near_down n q (root_unique n q (isqrt n) (record { low = l; high = (let s = suc_square q in omega (arith, s)) }) (isqrt-root n b)) h

below : (n p : ℕ) → n < 2 ^ 48 → suc p * suc p < n + suc p → n < suc p * suc p → suc p ≡ near_root n
below n p b l h =
    let s = suc_square p in
    sym (add-one p) ∙ near_up n p (root_unique n p (isqrt n) (record { low = omega (arith, s); high = h }) (isqrt-root n b)) (omega (arith, s))

pub near_check : (n q : ℕ) → n < 2 ^ 48 → q * q < n + q → n ≤ q * q + q → q ≡ near_root n
near_check n zero b l h = above n zero b (omega arith) h
near_check n (suc p) b l h = go (leb (suc p * suc p) n) (leb→le (suc p * suc p) n) (nleb→lt (suc p * suc p) n)
  where
    go : (t : Bool) → (T t → suc p * suc p ≤ n) → (T (not t) → n < suc p * suc p) → suc p ≡ near_root n
    go true x y = above n (suc p) b (x tt) h
    go false x y = below n p b l (y tt)

-- t is n + k - k * k, in three ranges
pub near_first : (n k t : ℕ) → n < 2 ^ 48 → n + k ≡ k * k + t → 0 < t → t ≤ 2 * k → k ≡ near_root n
near_first n k t b e l h = near_check n k b (omega arith) (omega arith)

pub near-second : (n k t : ℕ) → n < 2 ^ 48 → n + k ≡ k * k + t → 2 * k < t → t ≤ 4 * k + 2 → suc k ≡ near_root n
near-second n k t b e l h = let s = suc_square k in near_check n (suc k) b (omega (arith, s)) (omega (arith, s))

pub near-third : (n k t : ℕ) → n < 2 ^ 48 → n + k ≡ k * k + t → 4 * k + 2 < t → t ≤ 6 * k + 6 → suc (suc k) ≡ near_root n
near-third n k t b e l h =
    let s = suc_square k in
    let s' = suc_square (suc k) in
    near_check n (suc (suc k)) b (omega (arith, s, s')) (omega (arith, s, s'))
