-- What a sized record says: a size and a cause from the record's own samples, sigma and polarity.
use Rattle.std.specs.Prelude.{Result, Ok, Err}
use Prim.Native.Nat.{ℕ, suc, ◌+◌}
use native.Mathlib.Omega.{arith}
use mathlib.Core.Bool.{true}
use mathlib.Core.List.{List, [], ◌∷◌, ◌++◌}
use mathlib.Core.Path.{◌≡◌, refl, sym, ap, ◌∙◌}
use lib.ListN.{length, get_or}
use lib.Seq.{get_or-append-add}
use lib.Dec.{eqb}
use lib.Ieee.{Float}
use Rattle.float.specs.Num.{f0}
use Rattle.tables.specs.Set.{good}
use Rattle.tables.specs.Refusal.{cause_of}
use Rattle.tables.specs.declared.Set.{Set}
use Rattle.tables.specs.declared.Missing.{Missing}
use Rattle.tables.specs.declared.Missing.TheVariants.{Polarity, Range}
use Rattle.tables.specs.declared.Refusal.TheVariants as refusal
use Rattle.record.specs.declared.Record.{Record}
use Rattle.words.specs.Words.{half_bytes, float_bytes}
use Rattle.words.proofs.WordsLaws.{length-float_bytes}
use Rattle.whole.specs.Nearest.{nearest_of}
use Rattle.record.specs.Layout.{old_bytes, record_bytes}
use Rattle.record.proofs.LayoutLaws.{length-old_bytes, length-record_bytes}
use Rattle.size.specs.Correct.{answer_of, correct_by, correct_of}
use Rattle.size.proofs.CorrectLaws.{size-is-corrected, cause-is_corrects}
use Rattle.sized.specs.Sized.{given_sigma, accepted_of, missing_of, samples_in, size_of, home_of, tail_bytes, sized_bytes, old_sized_bytes}

-- ---- a size

module _ (s : Set) (r : Record) where
  -- a size is exactly what correction answers for the record's own samples, sigma and polarity
  pub size-is_corrects : good s ≡ true → answer_of (size_of s r) ≡ correct_of s (samples_in r) r.sigma (eqb r.polarity 1)
  unfolding size_of correct_by
  size-is_corrects g = rw g

  -- where correction answers a size, it stands after the record, old or not, then the home pixel, then accepted 1 and no cause
  pub sized_with-size : (sigma : Float) → correct_of s (samples_in r) r.sigma (eqb r.polarity 1) ≡ Ok sigma →
      let tail = float_bytes sigma ++ (half_bytes (nearest_of r.y) ++ (half_bytes (nearest_of r.x) ++ (1 ∷ 0 ∷ 0 ∷ 0 ∷ []))) in
      (sized_bytes s r ≡ record_bytes r ++ tail) × (old_sized_bytes s r ≡ old_bytes r ++ tail)
  unfolding sized_bytes old_sized_bytes tail_bytes size_of home_of given_sigma accepted_of missing_of
  sized_with-size sigma e = let given = (size-is-corrected s (samples_in r) r.sigma (eqb r.polarity 1) sigma e).1 in (rw given, rw given)

  -- where correction answers that there is none, +0.0, accepted 0 and its cause stand there
  pub sized_without : (why : Missing) → correct_of s (samples_in r) r.sigma (eqb r.polarity 1) ≡ Err (refusal.NoSize why) →
      let tail = float_bytes f0 ++ (half_bytes (nearest_of r.y) ++ (half_bytes (nearest_of r.x) ++ (0 ∷ cause_of why ∷ 0 ∷ 0 ∷ []))) in
      (sized_bytes s r ≡ record_bytes r ++ tail) × (old_sized_bytes s r ≡ old_bytes r ++ tail)
  unfolding sized_bytes old_sized_bytes tail_bytes size_of home_of given_sigma accepted_of missing_of
  sized_without why e = let none = cause-is_corrects s (samples_in r) r.sigma (eqb r.polarity 1) why e in (rw none, rw none)

-- records that agree in the four samples, sigma and polarity have the same size, whatever else differs
pub size-own : (s : Set) (r t : Record) → r.s0 ≡ t.s0 → r.s1 ≡ t.s1 → r.s2 ≡ t.s2 → r.s3 ≡ t.s3 → r.sigma ≡ t.sigma → r.polarity ≡ t.polarity → size_of s r ≡ size_of s t
unfolding size_of
size-own s r t e0 e1 e2 e3 sigma polarity = rw (e0, e1, e2, e3, sigma, polarity)

-- ---- the cause beside it

-- the cause is 0 exactly where the size is accepted
pub no_cause-accepted : (size : Result Float Missing) → missing_of size ≡ 0 → accepted_of size ≡ 1
unfolding missing_of accepted_of cause_of
no_cause-accepted (Ok sigma) e = refl
no_cause-accepted (Err Polarity) e = let z : ⊥ = omega (arith, e) in absurd z
no_cause-accepted (Err Range) e = let z : ⊥ = omega (arith, e) in absurd z

pub accepted_no_cause : (size : Result Float Missing) → accepted_of size ≡ 1 → missing_of size ≡ 0
unfolding missing_of accepted_of
accepted_no_cause (Ok sigma) e = refl
accepted_no_cause (Err why) e = let z : ⊥ = omega (arith, e) in absurd z

module _ (s : Set) (r : Record) (front : List ℕ) where
  abbrev rest : List ℕ
  rest = accepted_of (size_of s r) ∷ missing_of (size_of s r) ∷ 0 ∷ 0 ∷ []

  -- the last four bytes, behind the front, the size and the home
  last_four : (k : ℕ) → get_or (front ++ tail_bytes (size_of s r) (home_of r)) (length front + (8 + k)) 0 ≡ get_or rest k 0
  unfolding tail_bytes half_bytes
  last_four k =
      let past : 8 + k ≡ 4 + suc (suc (suc (suc k))) = omega arith in
      let float-bytes : 4 ≡ length (float_bytes (given_sigma (size_of s r))) = sym (length-float_bytes (given_sigma (size_of s r))) in
      get_or-append-add front _ (8 + k) 0
      ∙ ap (λ (i : ℕ). get_or (tail_bytes (size_of s r) (home_of r)) i 0) (past ∙ ap (λ (i : ℕ). i + suc (suc (suc (suc k)))) float-bytes)
      ∙ get_or-append-add (float_bytes (given_sigma (size_of s r))) _ (suc (suc (suc (suc k)))) 0

module _ (s : Set) (r : Record) where
  -- accepted stands in a sized record's byte 56
  pub accepted_at : get_or (sized_bytes s r) 56 0 ≡ accepted_of (size_of s r)
  unfolding sized_bytes
  accepted_at = (rw (length-record_bytes r) at (last_four s r (record_bytes r) 0))

  -- its cause in byte 57
  pub cause_at : get_or (sized_bytes s r) 57 0 ≡ missing_of (size_of s r)
  unfolding sized_bytes
  cause_at = (rw (length-record_bytes r) at (last_four s r (record_bytes r) 1))

  -- and 0 in the two that are left
  pub spare_at : (get_or (sized_bytes s r) 58 0 ≡ 0) × (get_or (sized_bytes s r) 59 0 ≡ 0)
  unfolding sized_bytes
  spare_at = ((rw (length-record_bytes r) at (last_four s r (record_bytes r) 2)), (rw (length-record_bytes r) at (last_four s r (record_bytes r) 3)))

  -- of an old one accepted stands in byte 48
  pub old_accepted_at : get_or (old_sized_bytes s r) 48 0 ≡ accepted_of (size_of s r)
  unfolding old_sized_bytes
  old_accepted_at = (rw (length-old_bytes r) at (last_four s r (old_bytes r) 0))

  -- its cause in byte 49
  pub old_cause_at : get_or (old_sized_bytes s r) 49 0 ≡ missing_of (size_of s r)
  unfolding old_sized_bytes
  old_cause_at = (rw (length-old_bytes r) at (last_four s r (old_bytes r) 1))

  -- and 0 in the two that are left
  pub old_spare_at : (get_or (old_sized_bytes s r) 50 0 ≡ 0) × (get_or (old_sized_bytes s r) 51 0 ≡ 0)
  unfolding old_sized_bytes
  old_spare_at = ((rw (length-old_bytes r) at (last_four s r (old_bytes r) 2)), (rw (length-old_bytes r) at (last_four s r (old_bytes r) 3)))
