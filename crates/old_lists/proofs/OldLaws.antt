-- The join of an old list is the join as it was before displacements were kept, on every list; and an old record has the size and the home of the present one.
use Rattle.std.specs.Prelude.{Result, Ok, Err, ⊤}
use Prim.Native.Nat.{ℕ, zero, suc, ◌/◌}
use mathlib.Core.Bool.{true, and-true}
use mathlib.Core.List.{List}
use mathlib.Core.Path.{◌≡◌, refl}
use lib.ListN.{length}
use Rattle.tables.specs.declared.Set.{Set}
use Rattle.tables.specs.declared.Refusal.{Refusal}
use Rattle.moves.proofs.MovesLaws.{zero_nearby}
use Rattle.record.specs.Layout.{floats4, old_bytes, record_with, record_from, old_from}
use Rattle.record.specs.Readable.{finite_record, readable}
use Rattle.record.proofs.ReadableLaws.{readable_parts, parts_readable}
use Rattle.sized.specs.Sized.{size_of, home_of, old_sized_bytes}
use Rattle.join.specs.Forms.{record_in}
use Rattle.join.specs.Join.{records_from, first_bad, join_checks, sized_all, laid_sized, joined, join_by, join_old_of}
use Rattle.old_lists.specs.Before.{readable_before, bad_before, checks_before, sized_before, all_before, joined_before, join_before}

-- ---- as before

module _ (rows cols : ℕ) (b : List ℕ) where
  readable-before : (i : ℕ) → readable rows cols (record_in true b i) ≡ readable_before rows cols b i
  unfolding readable finite_record readable_before old_from record_with
  readable-before i = rw (zero_nearby, and-true, and-true)

  bad-before : (n i : ℕ) → first_bad true rows cols b n i ≡ bad_before rows cols b n i
  unfolding first_bad bad_before
  bad-before zero i = refl
  bad-before (suc n) i = rw (readable-before i, bad-before n (suc i))

module _ (s : Set) (b : List ℕ) where
  sized_before_lem : (i : ℕ) → old_sized_bytes s (record_in true b i) ≡ sized_before s b i
  unfolding old_sized_bytes sized_before old_bytes floats4 old_from record_with size_of home_of
  sized_before_lem i = refl

  all-before : (n i : ℕ) → sized_all true s (records_from true b n i) ≡ all_before s b n i
  unfolding sized_all records_from all_before
  all-before zero i = refl
  all-before (suc n) i = rw (sized_before_lem i, all-before n (suc i))

joined-before : (w : Result ⊤ Refusal) (s : Set) (b out : List ℕ) → joined true w s b out ≡ joined_before w s b out
unfolding joined joined_before laid_sized
joined-before (Err r) s b out = refl
joined-before (Ok _) s b out = rw (all-before s b (length b / 40) 0)

-- On every list, set, map and buffer the join of an old list answers and leaves what the join did before displacements were kept.
pub old_as_before : (s : Set) (rows cols : ℕ) (b out : List ℕ) → join_old_of s rows cols b out ≡ join_before s rows cols b out
unfolding join_by join_before join_checks checks_before
old_as_before s rows cols b out = rw (bad-before rows cols b (length b / 40) 0) (joined-before _ s b out)

-- ---- an old record and the present one that begins with its bytes

module _ (b : List ℕ) (at : ℕ) where
  -- they have the same size
  pub old_same-size : (s : Set) → size_of s (old_from b at) ≡ size_of s (record_from b at)
  unfolding size_of old_from record_from record_with
  old_same-size s = refl

  -- and the same home,
  pub old_same_home : home_of (old_from b at) ≡ home_of (record_from b at)
  unfolding home_of old_from record_from record_with
  old_same_home = refl

  -- and where the present one is readable the old one is.
  pub old_readable : (rows cols : ℕ) → readable rows cols (record_from b at) ≡ true → readable rows cols (old_from b at) ≡ true
  unfolding old_from record_from record_with
  old_readable rows cols h =
      let p = readable_parts rows cols _ h in
      parts_readable rows cols _ (record {
        floats = record { x = p.floats.x; y = p.floats.y; sigma = p.floats.sigma; peak = p.floats.peak; s0 = p.floats.s0; s1 = p.floats.s1; s2 = p.floats.s2; s3 = p.floats.s3 };
        x = p.x;
        y = p.y;
        key = p.key;
        octave = p.octave;
        index = p.index;
        polarity = p.polarity;
        spare = p.spare;
        dx = zero_nearby;
        dy = zero_nearby;
      })
