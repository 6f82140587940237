-- A record that is written is read back as it was: each number bit for bit. Among the values there is one NaN, written as 0x7fc00000, so a NaN's sign and
-- payload are not kept. Assumes nothing.
use Prim.Native.Nat.{ℕ, suc, ◌+◌, ◌*◌, ◌/◌, ◌<◌}
use native.Mathlib.Nat.{add-zero, add_assoc}
use native.Mathlib.Omega.{arith}
use mathlib.Core.Path.{◌≡◌, refl, sym, ap, ◌∙◌}
use mathlib.Core.List.{List, [], ◌∷◌, ◌++◌, append_assoc}
use lib.ListN.{length, get_or, take, drop, length-take}
use lib.Seq.{get_or-append-add, split_at, get_or-take}
use lib.Dec.{T}
use lib.Ieee.{Float, binary32, fits}
use Rattle.words.specs.Words.{word_bytes, float_bytes, word_from, float_from}
use Rattle.words.proofs.WordsLaws.{word_from-append, float_from-append, word_from-word_bytes, float_from-float_bytes}
use Rattle.record.specs.Layout.{spot_width, floats4, old_bytes, record_bytes, bytes_of, laid, written, record_with, record_from, record_at, Held}
use Rattle.record.specs.declared.Record.{Record}
use Rattle.record.proofs.LayoutLaws.{length-bytes_of}

-- ---- reading past a front

pub record_from-append : (front b : List ℕ) (k : ℕ) → record_from (front ++ b) (length front + k) ≡ record_from b k
unfolding record_from record_with
record_from-append front b k = simp (add_assoc, float_from-append, word_from-append, get_or-append-add)

-- ---- one record

first_back : (r : Record) (rest : List ℕ) → Held r → record_from (record_bytes r ++ rest) 0 ≡ r
unfolding record_from record_with record_bytes old_bytes floats4 float_from float_bytes word_from word_bytes
first_back r rest h = λ i. record {
  x = back r.x h.x i;
  y = back r.y h.y i;
  sigma = back r.sigma h.sigma i;
  peak = back r.peak h.peak i;
  s0 = back r.s0 h.s0 i;
  s1 = back r.s1 h.s1 i;
  s2 = back r.s2 h.s2 i;
  s3 = back r.s3 h.s3 i;
  key = word_from-word_bytes r.key [] h.key i;
  octave = r.octave;
  index = r.index;
  polarity = r.polarity;
  spare = r.spare;
  dx = back r.dx h.dx i;
  dy = back r.dy h.dy i;
}
  where
    back : (x : Float) → T (fits binary32 x) → float_from (float_bytes x ++ []) 0 ≡ x
    back x f = float_from-float_bytes x [] f

pub record_from-record_bytes : (front rest : List ℕ) (r : Record) → Held r → record_from (front ++ (record_bytes r ++ rest)) (length front) ≡ r
record_from-record_bytes front rest r h =
    ap (record_from (front ++ (record_bytes r ++ rest))) (sym (add-zero (length front))) ∙ record_from-append front (record_bytes r ++ rest) 0 ∙ first_back r rest h

-- ---- each record that was laid

pub bytes_of-append : (rs ss : List Record) → bytes_of (rs ++ ss) ≡ bytes_of rs ++ bytes_of ss
unfolding bytes_of
bytes_of-append [] ss = refl
bytes_of-append (r ∷ rs) ss = rw (bytes_of-append rs ss, append_assoc)

-- the i-th of the records that stand first in a buffer
among : (rs : List Record) (rest : List ℕ) (i : ℕ) (d : Record) → i < length rs → Held (get_or rs i d) → record_at (bytes_of rs ++ rest) i ≡ get_or rs i d
unfolding bytes_of
among rs rest i d l h =
    let r : Record = get_or rs i d in
    let front : List ℕ = bytes_of (take i rs) in
    let after : List ℕ = bytes_of (drop (suc i) rs) ++ rest in
    let parts : bytes_of rs ++ rest ≡ front ++ (record_bytes r ++ after) = ap (λ (ss : List Record). bytes_of ss ++ rest) (split_at rs i d l) ∙ rw (bytes_of-append (take i rs) (r ∷ drop (suc i) rs)) (simp append_assoc) in
    let start : length front ≡ i * spot_width = omega (arith, length-bytes_of (take i rs), length-take i rs) in
    rw (parts, ← start) (record_from-record_bytes front after r h)

pub record_at-laid : (rs : List Record) (out : List ℕ) (i : ℕ) (d : Record) → i < written rs out → Held (get_or rs i d) → record_at (laid rs out) i ≡ get_or rs i d
unfolding laid
record_at-laid rs out i d w h =
    let n : ℕ = length out / spot_width in
    let same : get_or (take n rs) i d ≡ get_or rs i d = get_or-take n rs i d (omega arith) in
    among (take n rs) _ i d (omega (arith, length-take n rs)) (rw same h) ∙ same
