-- Laws of text written into a buffer, of hex digits, and of decimal digits.
use Prim.Native.Nat.{ℕ, zero, suc, ◌+◌, ◌-◌, ◌*◌, ◌/◌, ◌%◌, ◌^◌, ◌≤◌, ◌<◌}
use native.Mathlib.Nat.{add-zero, pow-succ', one-le-pow, pow-le-pow_right}
use native.Mathlib.Numerals.{add-one}
use native.Mathlib.Omega.{arith}
use mathlib.Core.Bool.{Bool, true, false, cond}
use mathlib.Core.Path.{◌≡◌, refl, sym, ap, ◌∙◌}
use mathlib.Core.List.{List, [], ◌∷◌, ◌++◌, append_assoc, append-nil}
use lib.ListN.{length, get_or, take, drop, set, length-append, length-take, length-drop, length-set}
use lib.Seq.{take-suc, take-suc-set, drop-drop, take_at, drop_at}
use lib.Dec.{ltb}
use borrow.Author.Tests.{lt-ltb, le-ltb, ltb-true, ltb-false}
use Rattle.io.specs.Digits.{last_digits, IsDigitCount}
use Rattle.record.specs.declared.Record.{Record}
use Rattle.record.specs.Layout.{spot_width, record_bytes, bytes_of}
use Rattle.record.proofs.LayoutLaws.{length-record_bytes}
use Rattle.text.specs.Text.{line_width, hex_of, line_of, lines_of, lines_in, decimal_by, decimal, value_after, Wrote}

-- ---- text written into a buffer

pub wrote_none : {out : List ℕ} {at : ℕ} → Wrote out out at at []
wrote_none = record { count = sym (add-zero _); long = refl; bytes = sym (append-nil _) }

pub wrote_one : (out : List ℕ) (at v : ℕ) → at < length out → Wrote out (set out at v) at (at + 1) (v ∷ [])
wrote_one out at v h = record { count = refl; long = simp length-set; bytes = rw add-one (take-suc-set out at v h) }

-- text written in two parts, one after the other
pub wrote_append : {a b c : List ℕ} {n m k : ℕ} {s t : List ℕ} → Wrote a b n m s → Wrote b c m k t → Wrote a c n k (s ++ t)
wrote_append {a} {b} {c} {n} {m} {k} {s} {t} p q = record {
  count = omega (arith, length-append s t, p.count, q.count);
  long = q.long ∙ p.long;
  bytes = q.bytes ∙ rw p.bytes (append_assoc (take n a) s t);
}

-- ---- hex digits

pub length-hex_of : (b : List ℕ) → length (hex_of b) ≡ 2 * length b
unfolding hex_of
length-hex_of [] = refl
length-hex_of (x ∷ b) = omega (arith, length-hex_of b)

pub hex_of-append : (a b : List ℕ) → hex_of (a ++ b) ≡ hex_of a ++ hex_of b
unfolding hex_of
hex_of-append [] b = refl
hex_of-append (x ∷ a) b = rw (hex_of-append a b)

-- one byte more
pub hex_next : (b : List ℕ) (k : ℕ) → k < length b → hex_of (take k b) ++ hex_of (get_or b k 0 ∷ []) ≡ hex_of (take (k + 1) b)
hex_next b k h = rw (add-one, take-suc b k 0 h, hex_of-append)

-- ---- lines

pub length-line : (b : List ℕ) → length (line_of b) ≡ 2 * length b + 1
unfolding line_of
length-line b = omega (arith, length-append (hex_of b) (10 ∷ []), length-hex_of b)

-- a record's line is as long as every other
pub length-record-line : (b : List ℕ) (i : ℕ) → i * spot_width + spot_width ≤ length b → length (line_of (take spot_width (drop (i * spot_width) b))) ≡ line_width
length-record-line b i h =
    let e : length (take spot_width (drop (i * spot_width) b)) ≡ spot_width = simp (length-take, length-drop) (omega arith) in
    rw (length-line, e)

-- a line of the first n records of a buffer comes first
pub lines-first : (n : ℕ) (b : List ℕ) → lines_in (suc n) b ≡ line_of (take spot_width b) ++ lines_in n (drop spot_width b)
unfolding lines_in
lines-first zero b = sym (append-nil (line_of (take spot_width b)))
lines-first (suc n) b =
    let e : spot_width + n * spot_width ≡ suc n * spot_width = omega arith in
    rw (lines-first n b, append_assoc, drop-drop, e)

-- the lines of records are those of the buffer that begins with their bytes
pub lines_of_bytes : (rs : List Record) (rest : List ℕ) → lines_in (length rs) (bytes_of rs ++ rest) ≡ lines_of rs
unfolding lines_of lines_in bytes_of
lines_of_bytes [] rest = refl
lines_of_bytes (r ∷ rs) rest =
    rw (lines-first, append_assoc, take_at (record_bytes r) (bytes_of rs ++ rest) spot_width (length-record_bytes r), drop_at (record_bytes r) (bytes_of rs ++ rest) spot_width (length-record_bytes r), lines_of_bytes rs rest)

-- ---- decimal digits

decimal_step : (n : ℕ) (x y : List ℕ) → (10 ≤ n → x ≡ y) → cond (ltb n 10) ((48 + n) ∷ []) x ≡ cond (ltb n 10) ((48 + n) ∷ []) y
decimal_step n x y h = go (ltb n 10) (ltb-false n 10)
  where
    go : (t : Bool) → (t ≡ false → 10 ≤ n) → cond t ((48 + n) ∷ []) x ≡ cond t ((48 + n) ∷ []) y
    go true large = refl
    go false large = h (large refl)

-- more steps than n change nothing
decimal_by-enough : (i j n : ℕ) → n ≤ i → n ≤ j → decimal_by i n ≡ decimal_by j n
unfolding decimal_by
decimal_by-enough zero zero n p q = refl
decimal_by-enough zero (suc j) n p q = rw (lt-ltb n 10 (omega arith))
decimal_by-enough (suc i) zero n p q = rw (lt-ltb n 10 (omega arith))
decimal_by-enough (suc i) (suc j) n p q =
    decimal_step n _ _ (λ l. ap (λ (ds : List ℕ). ds ++ ((48 + n % 10) ∷ [])) (decimal_by-enough i j (n / 10) (omega arith) (omega arith)))

-- a number below ten is its digit
pub decimal-small : (n : ℕ) → n < 10 → decimal n ≡ (48 + n) ∷ []
unfolding decimal decimal_by
decimal-small n h = decimal_by-enough n (suc n) n (omega arith) (omega arith) ∙ rw (lt-ltb n 10 h)

-- any other is that of its tens, then its last digit
pub decimal-more : (n : ℕ) → 10 ≤ n → decimal n ≡ decimal (n / 10) ++ ((48 + n % 10) ∷ [])
unfolding decimal decimal_by
decimal-more n h =
    decimal_by-enough n (suc (n - 1)) n (omega arith) (omega arith)
    ∙ rw (le-ltb n 10 h) (ap (λ (l : List ℕ). l ++ ((48 + n % 10) ∷ [])) (decimal_by-enough (n - 1) (n / 10) (n / 10) (omega arith) (omega arith)))

-- the last digit comes after the number before it
pub value_last : (v d : ℕ) (ds : List ℕ) → value_after v (ds ++ (d ∷ [])) ≡ 10 * value_after v ds + (d - 48)
unfolding value_after
value_last v d [] = refl
value_last v d (x ∷ ds) = value_last (10 * v + (x - 48)) d ds

value-cond : (n : ℕ) (ds : List ℕ) → (10 ≤ n → value_after 0 ds ≡ n) → value_after 0 (cond (ltb n 10) ((48 + n) ∷ []) ds) ≡ n
unfolding value_after
value-cond n ds h = go (ltb n 10) (ltb-false n 10)
  where
    go : (t : Bool) → (t ≡ false → 10 ≤ n) → value_after 0 (cond t ((48 + n) ∷ []) ds) ≡ n
    go true large = omega arith
    go false large = h (large refl)

value_tens : (n : ℕ) (ds : List ℕ) → value_after 0 ds ≡ n / 10 → value_after 0 (ds ++ ((48 + n % 10) ∷ [])) ≡ n
value_tens n ds e = value_last 0 (48 + n % 10) ds ∙ rw e (omega arith)

value-by : (k n : ℕ) → n ≤ k → value_after 0 (decimal_by k n) ≡ n
unfolding decimal_by value_after
value-by zero n h = omega arith
value-by (suc k) n h = value-cond n _ (λ l. value_tens n (decimal_by k (n / 10)) (value-by k (n / 10) (omega arith)))

-- the decimal digits of n give n
pub value-decimal : (n : ℕ) → value_after 0 (decimal n) ≡ n
unfolding decimal
value-decimal n = value-by n n (omega arith)

tens_under : (n a : ℕ) → n < 10 * a → n / 10 < a
tens_under n a h = omega arith

tens_over : (n a : ℕ) → 10 * a ≤ n → a ≤ n / 10
tens_over n a h = omega arith

ten_least : (n a : ℕ) → 1 ≤ a → 10 * a ≤ n → 10 ≤ n
ten_least n a g h = omega arith

-- the digits that io writes: k of them, the fewest that hold n
pub digits_decimal : (k n : ℕ) → IsDigitCount 10 1 n k → last_digits 10 k n ≡ decimal n
digits_decimal zero n f = let z : ⊥ = omega (arith, f.0) in absurd z
digits_decimal (suc zero) n f =
    let h : n < 10 = f.1 in
    let e : n % 10 ≡ n = omega arith in
    rw (e, lt-ltb n 10 h) (sym (decimal-small n h))
digits_decimal (suc (suc k)) n f =
    let one : suc (suc k) - 1 ≡ suc k = omega arith in
    let h : 10 ^ suc k ≤ n = rw one at (f.2 (omega arith)) in
    let p : 10 ^ suc k ≡ 10 * 10 ^ k = pow-succ' 10 k in
    let q : 10 ^ suc (suc k) ≡ 10 * 10 ^ suc k = pow-succ' 10 (suc k) in
    let u : n / 10 < 10 ^ suc k = tens_under n (10 ^ suc k) (rw q at f.1) in
    let last : suc k - 1 ≡ k = omega arith in
    let o : 10 ^ (suc k - 1) ≤ n / 10 = rw last (tens_over n (10 ^ k) (rw p at h)) in
    rw (digits_decimal (suc k) (n / 10) (omega arith, u, λ l. o), lt-ltb (n % 10) 10 (omega arith)) (sym (decimal-more n (ten_least n (10 ^ k) (one-le-pow k 10 (omega arith)) (rw p at h))))

-- of a number below 10^20 they are at most 20
pub fewest_most : (n k : ℕ) → n < 10 ^ 20 → IsDigitCount 10 1 n k → k ≤ 20
fewest_most n k h f = go (ltb 20 k) refl
  where
    go : (t : Bool) → ltb 20 k ≡ t → k ≤ 20
    go false e = ltb-false 20 k e
    go true e =
        let l : 20 < k = ltb-true 20 k e in
        let more : 10 ^ 20 ≤ 10 ^ (k - 1) = pow-le-pow_right {n = 10} (omega arith) {i = 20} {j = k - 1} (omega arith) in
        let z : ⊥ = omega (arith, f.2 (omega arith)) in
        absurd z
