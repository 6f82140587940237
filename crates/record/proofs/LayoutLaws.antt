-- Laws of a record's bytes and of records laid into a buffer. Assumes nothing.
use Prim.Native.Nat.{ℕ, zero, suc, ◌+◌, ◌-◌, ◌*◌, ◌/◌, ◌≤◌, ◌<◌}
use native.Mathlib.Nat.{add-zero, add-suc, suc-add, add_assoc}
use native.Mathlib.Omega.{arith}
use mathlib.Core.Bool.{Bool, true, false, cond}
use mathlib.Core.Path.{◌≡◌, refl, sym, ap, ◌∙◌}
use mathlib.Core.List.{List, [], ◌∷◌, ◌++◌}
use lib.ListN.{length, get_or, take, drop, length-append, length-take}
use lib.Seq.{sets, length-sets, sets-eq, take-nil, take_at, drop_at, get_or-drop}
use lib.Dec.{leb}
use lib.Ieee.{Float}
use borrow.Author.Tests.{le-leb, lt-leb}
use Rattle.words.specs.Words.{word_bytes, float_bytes}
use Rattle.words.proofs.Stores.{sets-append}
use Rattle.words.proofs.WordsLaws.{length-word_bytes, length-float_bytes}
use Rattle.record.specs.Layout.{spot_width, old_width, floats4, old_bytes, record_bytes, put, lay, bytes_of, laid, written, Laid}
use Rattle.record.specs.declared.Record.{Record}

-- ---- lengths

pub length-floats4 : (a b c d : Float) → length (floats4 a b c d) ≡ 16
unfolding floats4 float_bytes word_bytes
length-floats4 a b c d = refl

pub length-old_bytes : (r : Record) → length (old_bytes r) ≡ old_width
unfolding old_bytes floats4 float_bytes word_bytes
length-old_bytes r = refl

pub length-record_bytes : (r : Record) → length (record_bytes r) ≡ spot_width
unfolding record_bytes old_bytes floats4 float_bytes word_bytes
length-record_bytes r = refl

pub length-bytes_of : (rs : List Record) → length (bytes_of rs) ≡ length rs * spot_width
unfolding bytes_of
length-bytes_of [] = refl
length-bytes_of (r ∷ rs) = omega (arith, length-append (record_bytes r) (bytes_of rs), length-record_bytes r, length-bytes_of rs)

length_chosen : (b : Bool) (x y : List ℕ) → length x ≡ length y → length (cond b x y) ≡ length y
length_chosen true x y h = h
length_chosen false x y h = refl

pub length-put : (out : List ℕ) (n : ℕ) (r : Record) → length (put out n r) ≡ length out
unfolding put
length-put out n r = length_chosen (leb (n * spot_width + spot_width) (length out)) (sets out (n * spot_width) (record_bytes r)) out (length-sets out (n * spot_width) (record_bytes r))

pub length-lay : (rs : List Record) (out : List ℕ) (n : ℕ) → length (lay out n rs) ≡ length out
unfolding lay
length-lay [] out n = refl
length-lay (r ∷ rs) out n = length-lay rs (put out n r) (suc n) ∙ length-put out n r

-- ---- one record

-- its first bytes are the old record's
pub old_first : (r : Record) → take old_width (record_bytes r) ≡ old_bytes r
unfolding record_bytes
old_first r = take_at (old_bytes r) _ old_width (length-old_bytes r)

-- the four parts of an old record, stored one after the other
pub old_bytes_parts : {b c d e : List ℕ} (a : List ℕ) (at : ℕ) (r : Record)
    → b ≡ sets a at (floats4 r.x r.y r.sigma r.peak)
    → c ≡ sets b (at + 16) (floats4 r.s0 r.s1 r.s2 r.s3)
    → d ≡ sets c (at + 32) (word_bytes r.key)
    → e ≡ sets d (at + 36) (r.octave ∷ r.index ∷ r.polarity ∷ r.spare ∷ [])
    → e ≡ sets a at (old_bytes r)
unfolding old_bytes
old_bytes_parts a at r b-is c-is d-is e-is = simp (sets-append, length-floats4, length-word_bytes, add_assoc) (rw (e-is, d-is, c-is, b-is))

-- an old record and the displacement, stored one after the other
pub record_bytes_parts : {b c d : List ℕ} (a : List ℕ) (at : ℕ) (r : Record)
    → b ≡ sets a at (old_bytes r)
    → c ≡ sets b (at + 40) (float_bytes r.dx)
    → d ≡ sets c (at + 44) (float_bytes r.dy)
    → d ≡ sets a at (record_bytes r)
unfolding record_bytes
record_bytes_parts a at r b-is c-is d-is = simp (sets-append, length-old_bytes, length-float_bytes, add_assoc) (rw (d-is, c-is, b-is))

-- ---- records laid one by one

pub lay-none : (out : List ℕ) (n : ℕ) → lay out n [] ≡ out
unfolding lay
lay-none out n = refl

pub lay-one : (r : Record) (out : List ℕ) (n : ℕ) → lay out n (r ∷ []) ≡ put out n r
unfolding lay
lay-one r out n = refl

pub lay-append : (rs ss : List Record) (out : List ℕ) (n : ℕ) → lay out n (rs ++ ss) ≡ lay (lay out n rs) (n + length rs) ss
unfolding lay
lay-append [] ss out n = rw add-zero
lay-append (r ∷ rs) ss out n = rw (add-suc, ← suc-add) (lay-append rs ss (put out n r) (suc n))

pub put-room : (out : List ℕ) (n : ℕ) (r : Record) → n * spot_width + spot_width ≤ length out → put out n r ≡ sets out (n * spot_width) (record_bytes r)
unfolding put
put-room out n r h = rw (le-leb _ _ h)

pub put_full : (out : List ℕ) (n : ℕ) (r : Record) → length out < n * spot_width + spot_width → put out n r ≡ out
unfolding put
put_full out n r h = rw (lt-leb _ _ h)

-- d more records fit
lay_step : (r : Record) (rs : List Record) (out : List ℕ) (n d : ℕ) → length out / spot_width - n ≡ d
    → ((o : List ℕ) (k : ℕ) → lay o k rs ≡ sets o (k * spot_width) (bytes_of (take (length o / spot_width - k) rs)))
    → lay (put out n r) (suc n) rs ≡ sets out (n * spot_width) (bytes_of (take d (r ∷ rs)))
unfolding bytes_of
lay_step r rs out n zero e ih =
    let none : length out / spot_width - suc n ≡ 0 = omega arith in
    let full : length out < n * spot_width + spot_width = omega arith in
    rw (put_full out n r full, ih out (suc n), none)
lay_step r rs out n (suc d) e ih =
    let room : n * spot_width + spot_width ≤ length out = omega arith in
    let more : length (put out n r) / spot_width - suc n ≡ d = omega (arith, length-put out n r) in
    let next : suc n * spot_width ≡ n * spot_width + spot_width = omega arith in
    rw (ih (put out n r) (suc n), more, next, put-room out n r room, sets-append (record_bytes r), length-record_bytes r)

-- they are one run of stores, of the records that fit
pub lay-sets : (rs : List Record) (out : List ℕ) (n : ℕ) → lay out n rs ≡ sets out (n * spot_width) (bytes_of (take (length out / spot_width - n) rs))
unfolding lay bytes_of
lay-sets [] out n = rw take-nil
lay-sets (r ∷ rs) out n = lay_step r rs out n (length out / spot_width - n) refl (λ o k. lay-sets rs o k)

-- ---- the buffer as a whole

pub length-written : (rs : List Record) (out : List ℕ) → length (bytes_of (take (length out / spot_width) rs)) ≡ written rs out * spot_width
length-written rs out = rw (length-bytes_of (take (length out / spot_width) rs), length-take (length out / spot_width) rs)

pub lay-laid : (rs : List Record) (out : List ℕ) → lay out 0 rs ≡ laid rs out
unfolding laid
lay-laid rs out =
    let b : List ℕ = bytes_of (take (length out / spot_width) rs) in
    let fits : 0 + length b ≤ length out = omega (arith, length-written rs out) in
    let all : length out / spot_width - 0 ≡ length out / spot_width = omega arith in
    let start : 0 + length b ≡ length b = omega arith in
    rw (lay-sets rs out 0, all) (sets-eq b out 0 fits ∙ ap (λ (k : ℕ). b ++ drop k out) start)

pub length-laid : (rs : List Record) (out : List ℕ) → length (laid rs out) ≡ length out
length-laid rs out = ap length (sym (lay-laid rs out)) ∙ length-lay rs out 0

-- the records that fit stand first
pub laid-first : (rs : List Record) (out : List ℕ) → take (written rs out * spot_width) (laid rs out) ≡ bytes_of (take (length out / spot_width) rs)
unfolding laid
laid-first rs out = take_at (bytes_of (take (length out / spot_width) rs)) _ (written rs out * spot_width) (length-written rs out)

-- what lies past the records is kept
pub laid-rest : (rs : List Record) (out : List ℕ) → drop (written rs out * spot_width) (laid rs out) ≡ drop (written rs out * spot_width) out
unfolding laid
laid-rest rs out =
    drop_at (bytes_of (take (length out / spot_width) rs)) _ (written rs out * spot_width) (length-written rs out) ∙ ap (λ (k : ℕ). drop k out) (length-written rs out)

pub laid_keeps : (rs : List Record) (out : List ℕ) (i : ℕ) → written rs out * spot_width ≤ i → get_or (laid rs out) i 0 ≡ get_or out i 0
laid_keeps rs out i h =
    let k : ℕ = written rs out * spot_width in
    let e : k + (i - k) ≡ i = omega arith in
    rw (← e, ← get_or-drop k (laid rs out) (i - k) 0, laid-rest rs out, get_or-drop k out (i - k) 0)

-- ---- laying by turns

pub laid_none : {out : List ℕ} {n : ℕ} → Laid out out n n []
laid_none = record { count = sym (add-zero _); bytes = sym (lay-none _ _) }

-- what is laid in two parts, one after the other
pub laid-append : {a b c : List ℕ} {n m k : ℕ} {rs ss : List Record} → Laid a b n m rs → Laid b c m k ss → Laid a c n k (rs ++ ss)
laid-append {a} {b} {c} {n} {m} {k} {rs} {ss} p q = record {
  count = omega (arith, length-append rs ss, p.count, q.count);
  bytes = q.bytes ∙ rw (p.bytes, p.count) (sym (lay-append rs ss a n));
}

pub laid-length : {a b : List ℕ} {n m : ℕ} {rs : List Record} → Laid a b n m rs → length b ≡ length a
laid-length {a} {b} {n} {m} {rs} p = ap length p.bytes ∙ length-lay rs a n
