-- The bytes of a record, written and read, and how records lie in a buffer. Definitions only.
use Rattle.std.specs.Prelude.{ℕ, suc, ◌+◌, ◌*◌, ◌/◌, ◌^◌, ◌<◌, min, ◌≡◌, cond, List, [], ◌∷◌, ◌++◌, get_or, length, take, drop, T, leb, Float}
use Rattle.std.proofs.lemmas.List.Edits.{sets}
use Rattle.std.specs.Float.{binary32}
use Rattle.std.specs.Float.Ieee.{fits}
use Rattle.float.specs.Num.{f0}
use Rattle.words.specs.Words.{word_bytes, float_bytes, word_from, float_from}
use Rattle.record.specs.declared.Record.{Record}

-- how many bytes a record has
abbrev pub spot_width : ℕ
spot_width = 48

-- how many it had before displacements were kept
abbrev pub old_width : ℕ
old_width = 40

-- ---- writing

-- four floats' bytes
unfoldable pub floats4 : Float → Float → Float → Float → List ℕ
floats4 a b c d = float_bytes a ++ (float_bytes b ++ (float_bytes c ++ float_bytes d))

-- the bytes of an old record: x, y, sigma, peak, the four centre samples, order key, octave, scale index, polarity, a spare byte
unfoldable pub old_bytes : Record → List ℕ
old_bytes r =
    floats4 r.x r.y r.sigma r.peak ++ (floats4 r.s0 r.s1 r.s2 r.s3
    ++ (word_bytes r.key ++ (r.octave ∷ r.index ∷ r.polarity ∷ r.spare ∷ [])))

-- a record's bytes: those of the old record, then delta x and delta y
unfoldable pub record_bytes : Record → List ℕ
record_bytes r = old_bytes r ++ (float_bytes r.dx ++ float_bytes r.dy)

-- the record r at place n of the buffer, where it has room for it whole
unfoldable pub put : List ℕ → ℕ → Record → List ℕ
put out n r = cond (leb (n * spot_width + spot_width) (length out)) (sets out (n * spot_width) (record_bytes r)) out

-- the records at the places n, n + 1, ..
unfoldable pub lay : List ℕ → ℕ → List Record → List ℕ
lay out n [] = out
lay out n (r ∷ rs) = lay (put out n r) (suc n) rs

-- records, one after the other
unfoldable pub bytes_of : List Record → List ℕ
bytes_of [] = []
bytes_of (r ∷ rs) = record_bytes r ++ bytes_of rs

-- the whole records that fit, first ones first, then the bytes that were there
unfoldable pub laid : List Record → List ℕ → List ℕ
laid rs out = let b = bytes_of (take (length out / spot_width) rs) in b ++ drop (length b) out

-- how many of the records fit
abbrev pub written : List Record → List ℕ → ℕ
written rs out = min (length out / spot_width) (length rs)

-- what a function that lays rs from place n on answers and leaves
pub record Laid (out out' : List ℕ) (n r : ℕ) (rs : List Record) : Type 0 where
  pub count : r ≡ n + length rs
  pub bytes : out' ≡ lay out n rs

-- ---- reading

-- the record whose first bytes begin at the byte at, with the displacement dx, dy
unfoldable pub record_with : List ℕ → ℕ → Float → Float → Record
record_with b at dx dy = record {
  x = float_from b at;
  y = float_from b (at + 4);
  sigma = float_from b (at + 8);
  peak = float_from b (at + 12);
  s0 = float_from b (at + 16);
  s1 = float_from b (at + 20);
  s2 = float_from b (at + 24);
  s3 = float_from b (at + 28);
  key = word_from b (at + 32);
  octave = get_or b (at + 36) 0;
  index = get_or b (at + 37) 0;
  polarity = get_or b (at + 38) 0;
  spare = get_or b (at + 39) 0;
  dx = dx;
  dy = dy;
}

-- the record that begins at the byte at
unfoldable pub record_from : List ℕ → ℕ → Record
record_from b at = record_with b at (float_from b (at + 40)) (float_from b (at + 44))

-- the old record that begins at the byte at; it tells no displacement, and is read with +0
unfoldable pub old_from : List ℕ → ℕ → Record
old_from b at = record_with b at f0 f0

-- the n-th record of a list's bytes
abbrev pub record_at : List ℕ → ℕ → Record
record_at b n = record_from b (n * spot_width)

-- each of its floats is a value of binary32, and its key is a word
pub record Held (r : Record) : Type 0 where
  pub x : T (fits binary32 r.x)
  pub y : T (fits binary32 r.y)
  pub sigma : T (fits binary32 r.sigma)
  pub peak : T (fits binary32 r.peak)
  pub s0 : T (fits binary32 r.s0)
  pub s1 : T (fits binary32 r.s1)
  pub s2 : T (fits binary32 r.s2)
  pub s3 : T (fits binary32 r.s3)
  pub key : r.key < 2 ^ 32
  pub dx : T (fits binary32 r.dx)
  pub dy : T (fits binary32 r.dy)
