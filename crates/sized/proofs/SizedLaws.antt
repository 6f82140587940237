-- Laws of a sized record's bytes.
use Rattle.std.specs.Prelude.{Result}
use Prim.Native.Nat.{ℕ, ◌+◌}
use native.Mathlib.Nat.{add_assoc}
use native.Mathlib.Omega.{arith}
use mathlib.Core.List.{List, [], ◌∷◌, ◌++◌}
use mathlib.Core.Path.{◌≡◌}
use lib.ListN.{length, length-append}
use lib.Seq.{sets}
use lib.Ieee.{Float}
use Rattle.tables.specs.declared.Set.{Set}
use Rattle.record.specs.declared.Record.{Record}
use Rattle.words.specs.Words.{half_bytes, float_bytes}
use Rattle.record.specs.Layout.{spot_width, old_width, old_bytes, record_bytes}
use Rattle.words.proofs.Stores.{sets-append}
use Rattle.words.proofs.WordsLaws.{length-half_bytes, length-float_bytes}
use Rattle.record.proofs.LayoutLaws.{length-old_bytes, length-record_bytes}
use Rattle.sized.specs.declared.Home.{Home}
use Rattle.sized.specs.Sized.{sized_width, old_sized_width, given_sigma, accepted_of, missing_of, size_of, home_of, tail_bytes, sized_bytes, old_sized_bytes}
use Rattle.tables.specs.declared.Missing.{Missing}

-- ---- lengths

length-tail_bytes : (size : Result Float Missing) (home : Home) → length (tail_bytes size home) ≡ 12
unfolding tail_bytes half_bytes
length-tail_bytes size home =
    omega (arith, length-append (float_bytes (given_sigma size)) (half_bytes home.row ++ (half_bytes home.col ++ (accepted_of size ∷ missing_of size ∷ 0 ∷ 0 ∷ []))), length-float_bytes (given_sigma size))

pub length-sized_bytes : (s : Set) (r : Record) → length (sized_bytes s r) ≡ sized_width
unfolding sized_bytes
length-sized_bytes s r =
    omega (arith, length-append (record_bytes r) (tail_bytes (size_of s r) (home_of r)), length-record_bytes r, length-tail_bytes (size_of s r) (home_of r))

pub length-old_sized_bytes : (s : Set) (r : Record) → length (old_sized_bytes s r) ≡ old_sized_width
unfolding old_sized_bytes
length-old_sized_bytes s r =
    omega (arith, length-append (old_bytes r) (tail_bytes (size_of s r) (home_of r)), length-old_bytes r, length-tail_bytes (size_of s r) (home_of r))

-- ---- stores

-- the four parts of a tail, stored one after the other
pub tail_parts : {b c d e : List ℕ} {sigma : Float} {accepted missing : ℕ} (a : List ℕ) (at : ℕ) (size : Result Float Missing) (home : Home)
    → sigma ≡ given_sigma size
    → accepted ≡ accepted_of size
    → missing ≡ missing_of size
    → b ≡ sets a at (float_bytes sigma)
    → c ≡ sets b (at + 4) (half_bytes home.row)
    → d ≡ sets c (at + 6) (half_bytes home.col)
    → e ≡ sets d (at + 8) (accepted ∷ missing ∷ 0 ∷ 0 ∷ [])
    → e ≡ sets a at (tail_bytes size home)
unfolding tail_bytes
tail_parts a at size home sigma-is accepted-is missing-is b-is c-is d-is e-is =
    simp (sets-append, length-float_bytes, length-half_bytes, add_assoc) (rw (e-is, d-is, c-is, b-is, sigma-is, accepted-is, missing-is))

-- a record and its tail, stored one after the other
pub sized_parts : {b c : List ℕ} {size : (Result Float Missing)} {home : Home} (a : List ℕ) (at : ℕ) (s : Set) (r : Record)
    → size ≡ size_of s r
    → home ≡ home_of r
    → b ≡ sets a at (record_bytes r)
    → c ≡ sets b (at + spot_width) (tail_bytes size home)
    → c ≡ sets a at (sized_bytes s r)
unfolding sized_bytes
sized_parts a at s r size_is home-is b-is c-is = simp (sets-append, length-record_bytes) (rw (c-is, b-is, size_is, home-is))

-- and the same of an old one
pub old_sized_parts : {b c : List ℕ} {size : (Result Float Missing)} {home : Home} (a : List ℕ) (at : ℕ) (s : Set) (r : Record)
    → size ≡ size_of s r
    → home ≡ home_of r
    → b ≡ sets a at (old_bytes r)
    → c ≡ sets b (at + old_width) (tail_bytes size home)
    → c ≡ sets a at (old_sized_bytes s r)
unfolding old_sized_bytes
old_sized_parts a at s r size_is home-is b-is c-is = simp (sets-append, length-old_bytes) (rw (c-is, b-is, size_is, home-is))
