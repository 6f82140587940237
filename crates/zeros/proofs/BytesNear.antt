-- The bytes of records that differ at most in the signs of zero peaks: equal but for the peaks' sign bytes.
use mathlib.Core.Path.{◌≡◌, refl, sym, ap, subst, ◌∙◌}
use Prim.Native.Nat.{ℕ, zero, suc, ◌+◌, ◌-◌, ◌/◌, ◌%◌, ◌<◌, ◌≤◌}
use native.Mathlib.Omega.{arith}
use mathlib.Core.Bool.{Bool, true, false}
use mathlib.Core.Logic.{◌⊎◌, inl, inr}
use mathlib.Core.List.{List, [], ◌∷◌, ◌++◌}
use lib.IntN.{pos}
use lib.ListN.{get_or, length, set, take, length-set, length-append, length-take, get_or-append}
use lib.Seq.{get_or-set_same, get_or-set_other, get_or-append-add, get_or-take, take-nil}
use lib.Dec.{eqb, leb}
use borrow.Author.Tests.{eqb-true, eqb-false, leb-true, leb-false}
use lib.Ieee.{Float, fin, eq, of_bits, to_bits, size, span, climb}
use Rattle.float.specs.Num.{f0}
use Rattle.float.proofs.Floats.{zero_eq_zero}
use Rattle.fit.specs.Near.{Near, same, zeros}
use Rattle.record.specs.declared.Record.{Record}
use Rattle.words.specs.Words.{word_bytes, float_bytes}
use Rattle.record.specs.Layout.{spot_width, floats4, old_bytes, record_bytes, bytes_of, laid}
use Rattle.record.proofs.LayoutLaws.{length-record_bytes, length-bytes_of}
use Rattle.samples.specs.Level.{Maps}
use Rattle.detect.specs.Due.{due}
use Rattle.zeros.specs.Alike.{RecordNear, RecordsNear, none, more, with_peak}
use Rattle.zeros.specs.Choices.{Choices, AllAllowed, due_by}
use Rattle.zeros.specs.Bytes.{BytesNear, ZeroPeaks, ByteNear}
use Rattle.zeros.proofs.ListNear.{with_peak~, due~}

-- the sign byte of a zero
signed : Bool → ℕ
signed true = 128
signed false = 0

-- a record whose peak is a zero, by the record whose peak is +0
zero_peak : (r : Record) (s : Bool) → record_bytes (with_peak r (fin s 0 (pos 0))) ≡ set (record_bytes (with_peak r (fin false 0 (pos 0)))) 15 (signed s)
unfolding with_peak signed record_bytes old_bytes floats4 float_bytes word_bytes to_bits size span climb
zero_peak r true = refl
zero_peak r false = refl

signed_same : (s t : Bool) → signed s % 128 ≡ signed t % 128
unfolding signed
signed_same true true = refl
signed_same true false = refl
signed_same false true = refl
signed_same false false = refl

-- ---- lists of bytes

equal_near : (l : List ℕ) → BytesNear l l
equal_near l = record { long = refl; others = λ n h. refl; signs = λ n. refl }

module _ (l : List ℕ) (u v : ℕ) where
  other : (n : ℕ) → (n ≡ 15 → ⊥) → get_or (set l 15 u) n 0 ≡ get_or (set l 15 v) n 0
  other n h = get_or-set_other l 15 n u 0 h ∙ sym (get_or-set_other l 15 n v 0 h)

  set-near : 15 < length l → u % 128 ≡ v % 128 → BytesNear (set l 15 u) (set l 15 v)
  set-near h e = record {
    long = length-set l 15 u ∙ sym (length-set l 15 v);
    others = λ n ne. other n (λ (q : n ≡ 15). ne (ap (λ (z : ℕ). z % spot_width) q));
    signs = λ n. at n (eqb n 15) refl;
  }
    where
      at : (n : ℕ) (t : Bool) → eqb n 15 ≡ t → get_or (set l 15 u) n 0 % 128 ≡ get_or (set l 15 v) n 0 % 128
      at n true q = rw (eqb-true n 15 q, get_or-set_same l 15 u 0 h, get_or-set_same l 15 v 0 h) e
      at n false q = ap (λ (z : ℕ). z % 128) (other n (eqb-false n 15 q))

get_d_past : (a b : List ℕ) (n : ℕ) → length a ≤ n → get_or (a ++ b) n 0 ≡ get_or b (n - length a) 0
get_d_past a b n h = let e : n ≡ length a + (n - length a) = omega arith in ap (λ (z : ℕ). get_or (a ++ b) z 0) e ∙ get_or-append-add a b (n - length a) 0

module _ {x x' y y' : List ℕ} (whole : length x % spot_width ≡ 0) (X : BytesNear x x') (Y : BytesNear y y') where
  -- what holds of the bytes of both parts holds of those of the whole
  joined : (S : ℕ → ℕ → Type 0) (n : ℕ) → S (get_or x n 0) (get_or x' n 0) → (length x ≤ n → S (get_or y (n - length x) 0) (get_or y' (n - length x) 0)) → S (get_or (x ++ y) n 0) (get_or (x' ++ y') n 0)
  joined S n p q = go (leb (length x) n) refl where
    go : (t : Bool) → leb (length x) n ≡ t → S (get_or (x ++ y) n 0) (get_or (x' ++ y') n 0)
    go true e =
        let past : length x ≤ n = leb-true (length x) n e in
        let past' : length x' ≤ n = omega (arith, X.long) in
        rw (get_d_past x y n past, get_d_past x' y' n past', ← X.long) (q past)
    go false e =
        let before : n < length x = leb-false (length x) n e in
        let before' : n < length x' = omega (arith, X.long) in
        rw (get_or-append x y 0 n before, get_or-append x' y' 0 n before') p

  append-near : BytesNear (x ++ y) (x' ++ y')
  append-near = record {
    long = omega (arith, length-append x y, length-append x' y', X.long, Y.long);
    others = λ n h. joined (λ a b. a ≡ b) n (X.others n h) (λ past. Y.others (n - length x) (λ e. h (omega (arith, e, past, whole))));
    signs = λ n. joined (λ a b. a % 128 ≡ b % 128) n (X.signs n) (λ past. Y.signs (n - length x));
  }

-- ---- one record

zero_near : (r : Record) {v v' : Float} → Near v v' → BytesNear (record_bytes (with_peak r v)) (record_bytes (with_peak r v'))
zero_near r same = equal_near _
zero_near r (zeros {s = s} {t = t}) =
    let l : List ℕ = record_bytes (with_peak r (fin false 0 (pos 0))) in
    rw (zero_peak r s, zero_peak r t) (set-near l (signed s) (signed t) (omega (arith, length-record_bytes (with_peak r (fin false 0 (pos 0))))) (signed_same s t))

-- two records' bytes are equal but for byte 15, and there but for the sign
pub record_bytes~ : {a b : Record} → RecordNear a b → BytesNear (record_bytes a) (record_bytes b)
unfolding with_peak
record_bytes~ {a = a} {b = b} R = subst (λ z. BytesNear (record_bytes a) (record_bytes z)) (with_peak~ R b.peak) (zero_near a R.peak)

-- where they differ the peaks are zeros
pub record-bytes_differ : {a b : Record} → RecordNear a b → (record_bytes a ≡ record_bytes b) ⊎ ZeroPeaks a b
unfolding with_peak of_bits
record-bytes_differ {a = a} {b = b} R = subst (λ z. (record_bytes a ≡ record_bytes z) ⊎ ZeroPeaks a b) (with_peak~ R b.peak) (go a R.peak) where
  go : (r : Record) {v v' : Float} → Near v v' → (record_bytes (with_peak r v) ≡ record_bytes (with_peak r v')) ⊎ ((eq v f0 ≡ true) × (eq v' f0 ≡ true))
  go r same = inl refl
  go r (zeros {s = s} {t = t}) = inr (zero_eq_zero s (pos 0), zero_eq_zero t (pos 0))

record_byte : {a b : Record} → RecordNear a b → (n : ℕ) → (get_or (record_bytes a) n 0 ≡ get_or (record_bytes b) n 0) ⊎ ((n % spot_width ≡ 15) × ZeroPeaks a b)
record_byte {a = a} {b = b} R n = go (record-bytes_differ R) (eqb (n % spot_width) 15) refl where
  go : (record_bytes a ≡ record_bytes b) ⊎ ZeroPeaks a b → (t : Bool) → eqb (n % spot_width) 15 ≡ t →
      (get_or (record_bytes a) n 0 ≡ get_or (record_bytes b) n 0) ⊎ ((n % spot_width ≡ 15) × ZeroPeaks a b)
  go (inl e) t q = inl (ap (λ (l : List ℕ). get_or l n 0) e)
  go (inr z) true q = inr (eqb-true (n % spot_width) 15 q, z)
  go (inr z) false q = inl ((record_bytes~ R).others n (eqb-false (n % spot_width) 15 q))

-- ---- lists and the buffer

whole-record : (r : Record) → length (record_bytes r) % spot_width ≡ 0
whole-record r = rw (length-record_bytes r)

pub list_bytes~ : {rs ts : List Record} → RecordsNear rs ts → BytesNear (bytes_of rs) (bytes_of ts)
unfolding bytes_of
list_bytes~ none = equal_near []
list_bytes~ (more {a = a} e h) = append-near (whole-record a) (record_bytes~ e) (list_bytes~ h)

take~ : (n : ℕ) {rs ts : List Record} → RecordsNear rs ts → RecordsNear (take n rs) (take n ts)
take~ n none = rw take-nil none
take~ zero (more e h) = none
take~ (suc n) (more e h) = more e (take~ n h)

-- records laid into one buffer
pub laid~ : {rs ts : List Record} → RecordsNear rs ts → (out : List ℕ) → BytesNear (laid rs out) (laid ts out)
unfolding laid
laid~ {rs = rs} h out =
    let B = list_bytes~ (take~ (length out / spot_width) h) in
    rw (← B.long) (append-near (omega (arith, length-bytes_of (take (length out / spot_width) rs))) B (equal_near _))

-- a byte of one record more: its own, or one of the others'
byte_more : {a b : Record} (rs ts : List Record) → RecordNear a b → (n : ℕ) (d : Record) → ByteNear (bytes_of rs) (bytes_of ts) rs ts (n - spot_width) d →
    ByteNear (bytes_of (a ∷ rs)) (bytes_of (b ∷ ts)) (a ∷ rs) (b ∷ ts) n d
unfolding bytes_of
byte_more {a = a} {b = b} rs ts e n d later = go (leb spot_width n) refl where
  first : length (record_bytes a) ≡ spot_width
  first = length-record_bytes a

  second : length (record_bytes b) ≡ spot_width
  second = length-record_bytes b

  go : (t : Bool) → leb spot_width n ≡ t → ByteNear (bytes_of (a ∷ rs)) (bytes_of (b ∷ ts)) (a ∷ rs) (b ∷ ts) n d
  go true q =
      let past : spot_width ≤ n = leb-true spot_width n q in
      let quotient : n / spot_width ≡ suc ((n - spot_width) / spot_width) = omega arith in
      let rest : n % spot_width ≡ (n - spot_width) % spot_width = omega arith in
      rw (get_d_past (record_bytes a) (bytes_of rs) n (omega (arith, first)), get_d_past (record_bytes b) (bytes_of ts) n (omega (arith, second)), first, second, quotient, rest) later
  go false q =
      let before : n < spot_width = leb-false spot_width n q in
      let quotient : n / spot_width ≡ 0 = omega arith in
      rw (get_or-append (record_bytes a) (bytes_of rs) 0 n (omega (arith, first)), get_or-append (record_bytes b) (bytes_of ts) 0 n (omega (arith, second)), quotient) (record_byte e n)

-- where two lists' bytes differ, the record's peak is a zero in both
pub list_byte~ : {rs ts : List Record} → RecordsNear rs ts → (n : ℕ) (d : Record) → ByteNear (bytes_of rs) (bytes_of ts) rs ts n d
list_byte~ none n d = inl refl
list_byte~ (more {rs = rs} {ts = ts} e h) n d = byte_more rs ts e n d (list_byte~ h (n - spot_width) d)

-- so too in a buffer
pub laid_byte~ : {rs ts : List Record} → RecordsNear rs ts → (out : List ℕ) (n : ℕ) (d : Record) → ByteNear (laid rs out) (laid ts out) rs ts n d
unfolding laid
laid_byte~ {rs = rs} {ts = ts} h out n d = go (leb (length (bytes_of (take k rs))) n) refl where
  k : ℕ
  k = length out / spot_width

  alike : length (bytes_of (take k rs)) ≡ length (bytes_of (take k ts))
  alike = (list_bytes~ (take~ k h)).long

  go : (t : Bool) → leb (length (bytes_of (take k rs))) n ≡ t → ByteNear (laid rs out) (laid ts out) rs ts n d
  go true q =
      let past : length (bytes_of (take k rs)) ≤ n = leb-true _ n q in
      let past' : length (bytes_of (take k ts)) ≤ n = omega (arith, alike) in
      inl (rw (get_d_past (bytes_of (take k rs)) _ n past, get_d_past (bytes_of (take k ts)) _ n past', alike))
  go false q =
      let before : n < length (bytes_of (take k rs)) = leb-false _ n q in
      let before' : n < length (bytes_of (take k ts)) = omega (arith, alike) in
      let inside : n / spot_width < k = omega (arith, length-bytes_of (take k rs), length-take k rs) in
      rw (get_or-append (bytes_of (take k rs)) _ 0 n before, get_or-append (bytes_of (take k ts)) _ 0 n before')
      (rw (get_or-take k rs (n / spot_width) d inside, get_or-take k ts (n / spot_width) d inside) at (list_byte~ (take~ k h) n d))

-- ---- what detection writes, under any allowed choice of zeros at every call

module _ (P : Choices) (A : AllAllowed P) (m : Maps) (out : List ℕ) where
  -- the buffers are equal but for the sign bytes of peaks
  pub due_bytes~ : BytesNear (laid (due_by P m) out) (laid (due m) out)
  due_bytes~ = laid~ (due~ P A m) out

  -- and where a byte differs the peak is a zero in both
  pub due_byte~ : (n : ℕ) (d : Record) → ByteNear (laid (due_by P m) out) (laid (due m) out) (due_by P m) (due m) n d
  due_byte~ = laid_byte~ (due~ P A m) out
