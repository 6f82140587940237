-- What a good set gives, what the reader accepts and refuses, and that set T is good.
use Rattle.std.specs.Prelude.{Result, Ok, Err}
use mathlib.Core.Path.{◌≡◌, refl, sym, ◌∙◌}
use mathlib.Core.Bool.{Bool, true, false, not, false≢true, ◌&&◌}
use mathlib.Core.List.{List, [], ◌∷◌}
use Prim.Native.Nat.{ℕ, zero, suc, ◌<◌}
use native.Mathlib.Nat.{not-suc-le-zero, le_of_suc-le-suc}
use native.Mathlib.Omega.{arith}
use borrow.Author.Tests.{ltb-true, ltb-false, eqb-true, ne_eqb, not-true}
use lib.Dec.{ltb, eqb}
use lib.ListN.{length, get_or, get_or-eq_default}
use lib.Ieee.{Float, nan, lt, of_bits, of_fields, odd}
use Rattle.float.specs.Small.{finite}
use Rattle.float.specs.Num.{f0}
use Rattle.float.proofs.Bools.{both, all_four, all_five}
use Rattle.tables.specs.declared.Set.{Set}
use Rattle.tables.specs.Set.{every, all_finite, all_under, rising, all_set, good, blank, set_of, spare_zero, good_record}
use Rattle.tables.specs.declared.Unread.{Unread}
use Rattle.tables.specs.Refusal.{number, not_read, refused_set, read_set_of, read_or_blank}
use Rattle.tables.specs.SetT.{values, sigmas_t, cubic_t, row, block_t, numbers_t, set_t}
use Rattle.tables.proofs.Floats.{no_nan-above, above_positive}

-- ---- lists whose every element passes a test

module _ {A : Type 0} (p : A → Bool) where
  pub every_at : (l : List A) (d : A) (i : ℕ) → every p l ≡ true → i < length l → p (get_or l i d) ≡ true
  unfolding every
  every_at [] d i e h = absurd (not-suc-le-zero h)
  every_at (x ∷ xs) d zero e h = (both (p x) (every p xs) e).0
  every_at (x ∷ xs) d (suc i) e h = every_at xs d i (both (p x) (every p xs) e).1 (le_of_suc-le-suc h)

  -- at every index, where the default passes too
  pub every_or_default : (l : List A) (d : A) (i : ℕ) → every p l ≡ true → p d ≡ true → p (get_or l i d) ≡ true
  unfolding every
  every_or_default [] d i e h = h
  every_or_default (x ∷ xs) d zero e h = (both (p x) (every p xs) e).0
  every_or_default (x ∷ xs) d (suc i) e h = every_or_default xs d i (both (p x) (every p xs) e).1 h

-- ---- a good set

-- a number that is above another stands in its list
stands : (l : List Float) (i : ℕ) (x : Float) → lt x (get_or l i nan) ≡ true → i < length l
stands l i x e = go (ltb i (length l)) refl
  where
    go : (b : Bool) → ltb i (length l) ≡ b → i < length l
    go true t = ltb-true i (length l) t
    go false f =
        let z : false ≡ true = sym (no_nan-above x) ∙ (rw (get_or-eq_default l nan (ltb-false i (length l) f)) at e) in
        absurd (false≢true z)

module _ (s : Set) (g : good s ≡ true) where
  parts : (all_set s ≡ true) × (rising s.sigmas ≡ true) × (not (lt (get_or s.numbers 10 nan) f0) ≡ true) × (all_under 9 s.order ≡ true)
  unfolding good
  parts = all_four (all_set s) (rising s.sigmas) (not (lt (get_or s.numbers 10 nan) f0)) (all_under 9 s.order) g

  whole : (all_finite s.sigmas ≡ true) × (all_finite s.scale ≡ true) × (all_finite s.geometry ≡ true) × (all_finite s.spatial ≡ true) × (all_finite s.numbers ≡ true)
  unfolding all_set
  whole = all_five (all_finite s.sigmas) (all_finite s.scale) (all_finite s.geometry) (all_finite s.spatial) (all_finite s.numbers) parts.0

  steps : (lt f0 (get_or s.sigmas 0 nan) ≡ true) × (lt (get_or s.sigmas 0 nan) (get_or s.sigmas 1 nan) ≡ true) × (lt (get_or s.sigmas 1 nan) (get_or s.sigmas 2 nan) ≡ true) × (lt (get_or s.sigmas 2 nan) (get_or s.sigmas 3 nan) ≡ true)
  unfolding rising
  steps = all_four _ _ _ _ parts.1

  pub sigmas_rise : (i : ℕ) → i < 3 → lt (get_or s.sigmas i nan) (get_or s.sigmas (suc i) nan) ≡ true
  sigmas_rise zero h = steps.1
  sigmas_rise (suc zero) h = steps.2
  sigmas_rise (suc (suc zero)) h = steps.3
  sigmas_rise (suc (suc (suc i))) h = let z : ⊥ = omega arith in absurd z

  pub sigmas_positive : (i : ℕ) → i < 4 → lt f0 (get_or s.sigmas i nan) ≡ true
  sigmas_positive zero h = steps.0
  sigmas_positive (suc i) h = above_positive _ _ (sigmas_positive i (omega arith)) (sigmas_rise i (omega arith))

  pub sigmas_finite : (i : ℕ) → i < 4 → finite (get_or s.sigmas i nan) ≡ true
  sigmas_finite i h = every_at finite s.sigmas nan i whole.0 (stands s.sigmas i f0 (sigmas_positive i h))

  pub scale-finite : (i : ℕ) → i < length s.scale → finite (get_or s.scale i nan) ≡ true
  scale-finite i h = every_at finite s.scale nan i whole.1 h

  pub geometry_finite : (i : ℕ) → i < length s.geometry → finite (get_or s.geometry i nan) ≡ true
  geometry_finite i h = every_at finite s.geometry nan i whole.2 h

  pub spatial_finite : (i : ℕ) → i < length s.spatial → finite (get_or s.spatial i nan) ≡ true
  spatial_finite i h = every_at finite s.spatial nan i whole.3 h

  pub numbers_finite : (i : ℕ) → i < length s.numbers → finite (get_or s.numbers i nan) ≡ true
  numbers_finite i h = every_at finite s.numbers nan i whole.4 h

  pub cap_not_below_zero : lt (get_or s.numbers 10 nan) f0 ≡ false
  cap_not_below_zero = not-true _ parts.2

  pub order_under_nine : (i : ℕ) → i < 9 → get_or s.order i 0 < 9
  order_under_nine i h = ltb-true _ _ (every_or_default (λ x. ltb x 9) s.order 0 i parts.3 refl)

-- ---- the reader

pub good-record_read : (b : List ℕ) → good_record b ≡ true → read_set_of b ≡ Ok (set_of b)
unfolding read_set_of
good-record_read b e = rw e

pub bad-record-refused : (b : List ℕ) → good_record b ≡ false → read_set_of b ≡ refused_set
unfolding read_set_of
bad-record-refused b e = rw e

pub wrong_length : (b : List ℕ) → (length b ≡ 528 → ⊥) → good_record b ≡ false
unfolding good_record
wrong_length b h = rw (ne_eqb (length b) 528 h)

pub wrong_length-refused : (b : List ℕ) → (length b ≡ 528 → ⊥) → read_set_of b ≡ refused_set
wrong_length-refused b h = bad-record-refused b (wrong_length b h)

-- a refusal comes of a bad record alone
pub refused-only-bad : (b : List ℕ) (w : Unread) → read_set_of b ≡ Err w → good_record b ≡ false
refused-only-bad b w e = go (good_record b) refl
  where
    go : (t : Bool) → good_record b ≡ t → good_record b ≡ false
    go true t = let z : ◌≡◌ {A = Result Set Unread} (Ok (set_of b)) (Err w) = sym (good-record_read b t) ∙ e in cc
    go false t = t

-- what is answered to one: the refusal, and the set beside it
pub refused-with : (b : List ℕ) (w : Unread) → read_set_of b ≡ Err w → w ≡ not_read
unfolding refused_set
refused-with b w e = let z : ◌≡◌ {A = Result Set Unread} (Err not_read) (Err w) = sym (bad-record-refused b (refused-only-bad b w e)) ∙ e in cc

pub refusal-is_four : (b : List ℕ) (w : Unread) → read_set_of b ≡ Err w → number w.why ≡ 4
unfolding number
refusal-is_four b w e = rw (refused-with b w e)

-- the set beside a refusal is the one of zeros
pub refused-zeros : (b : List ℕ) (w : Unread) → read_set_of b ≡ Err w → w.set ≡ blank
refused-zeros b w e = rw (refused-with b w e)

-- ---- set T

pub set_t_good : good set_t ≡ true
unfolding values sigmas_t cubic_t row block_t numbers_t set_t good all_set rising every finite lt of_bits of_fields odd
set_t_good = refl

-- ---- the set that is read

-- the set of zeros is not good
pub blank-bad : good blank ≡ false
unfolding good rising blank all_set every finite lt of_bits of_fields odd
blank-bad = refl

good-set_of : (b : List ℕ) → good_record b ≡ true → good (set_of b) ≡ true
unfolding good_record
good-set_of b e = (both (eqb (length b) 528 && spare_zero b) (good (set_of b)) e).1

-- the set that is read is good exactly when the record is
pub read_good : (b : List ℕ) → good (read_or_blank b) ≡ good_record b
unfolding read_or_blank
read_good b = go (good_record b) refl
  where
    go : (t : Bool) → good_record b ≡ t → good (read_or_blank b) ≡ good_record b
    go true e = rw e (good-set_of b e)
    go false e = rw e blank-bad

-- a set that is read without a refusal is the record's
pub read-held : (b : List ℕ) (s : Set) → read_set_of b ≡ Ok s → read_or_blank b ≡ s
unfolding read_or_blank refused_set
read-held b s e = go (good_record b) refl
  where
    go : (t : Bool) → good_record b ≡ t → read_or_blank b ≡ s
    go true t = let z : ◌≡◌ {A = Result Set Unread} (Ok (set_of b)) (Ok s) = sym (good-record_read b t) ∙ e in let y : set_of b ≡ s = cc in rw t y
    go false t = let z : ◌≡◌ {A = Result Set Unread} (Err not_read) (Ok s) = sym (bad-record-refused b t) ∙ e in cc

-- and that of a refused record is blank
pub refused-blank : (b : List ℕ) (w : Unread) → read_set_of b ≡ Err w → read_or_blank b ≡ blank
unfolding read_or_blank
refused-blank b w e = rw (refused-only-bad b w e)

-- a good record is 528 bytes long
pub good-long : (b : List ℕ) → good_record b ≡ true → length b ≡ 528
unfolding good_record
good-long b e = eqb-true (length b) 528 (both (eqb (length b) 528) (spare_zero b) (both (eqb (length b) 528 && spare_zero b) (good (set_of b)) e).0).0
