-- The due list followed beside the given one: in parts, and what each step comes to. Assumes nothing.
use Prim.Native.Nat.{ℕ, suc, ◌≤◌, ◌<◌}
use mathlib.Core.Bool.{true, false, false≢true}
use mathlib.Core.List.{List, [], ◌∷◌, ◌++◌}
use mathlib.Core.Path.{◌≡◌, refl, sym}
use borrow.Author.Tests.{lt-ltb, le-ltb}
use Rattle.alike.specs.Same.{same}
use Rattle.record.specs.declared.Record.{Record}
use Rattle.record.specs.Layout.{record_bytes, record_at}
use Rattle.follow.specs.Follow.{count_of, own_bytes, earlier, meet_of, step_of, walk_of, is_going}
use Rattle.follow.specs.declared.Finding.{Finding}
use Rattle.follow.specs.declared.Finding.TheVariants.{Extra, Absent, Different}
use Rattle.std.specs.Prelude.{is_some}
use Rattle.std.specs.ControlFlow.{continue_value}
use Rattle.std.specs.declared.ops.ControlFlow.{ControlFlow}
use Rattle.std.specs.declared.ops.ControlFlow.TheVariants.{Continue, Break}

-- two parts, one after the other
pub walk_append : (b : List ℕ) (w : ControlFlow Finding ℕ) (ds es : List Record) → walk_of b w (ds ++ es) ≡ walk_of b (walk_of b w ds) es
unfolding walk_of
walk_append b w [] es = refl
walk_append b w (d ∷ ds) es = walk_append b (step_of b w d) ds es

-- nothing more is looked at once the first difference is found
pub walk_ended : (b : List ℕ) (a : Finding) (ds : List Record) → walk_of b (Break a) ds ≡ Break a
unfolding walk_of step_of
walk_ended b a [] = refl
walk_ended b a (d ∷ ds) = walk_ended b a ds

pub walk_none : (b : List ℕ) (w : ControlFlow Finding ℕ) → walk_of b w [] ≡ w
unfolding walk_of
walk_none b w = refl

pub walk_one : (b : List ℕ) (w : ControlFlow Finding ℕ) (d : Record) → walk_of b w (d ∷ []) ≡ step_of b w d
unfolding walk_of
walk_one b w d = refl

pub walk-next : (b : List ℕ) (i : ℕ) (d : Record) (ds : List Record) → walk_of b (Continue i) (d ∷ ds) ≡ walk_of b (meet_of b i d) ds
unfolding walk_of step_of
walk-next b i d ds = refl

-- a walk goes on where it has a place to go on from
pub goes-on : (w : ControlFlow Finding ℕ) → is_some (continue_value w) ≡ is_going w
unfolding is_going
goes-on (Continue i) = refl
goes-on (Break a) = refl

-- a walk that goes on no more has ended with a finding
pub record Over (w : ControlFlow Finding ℕ) : Type 0 where
  pub found : Finding
  pub is : w ≡ Break found

pub going_over : (w : ControlFlow Finding ℕ) → is_going w ≡ false → Over w
unfolding is_going
going_over (Continue i) h = absurd (false≢true (sym h))
going_over (Break a) h = record { found = a; is = refl }

-- and stays so
pub over_stays : (b : List ℕ) (w : ControlFlow Finding ℕ) (ds : List Record) → is_going w ≡ false → walk_of b w ds ≡ w
over_stays b w ds h = let o = going_over w h in rw o.is (walk_ended b o.found ds)

-- ---- one due record at the place i

module _ (b : List ℕ) (i : ℕ) (d : Record) where
  pub meet_end : count_of b ≤ i → meet_of b i d ≡ Break (Absent i)
  unfolding meet_of
  meet_end h = rw (le-ltb i (count_of b) h)

  pub meet_extra : i < count_of b → earlier (record_at b i) d ≡ true → meet_of b i d ≡ Break (Extra i)
  unfolding meet_of
  meet_extra h p = rw (lt-ltb i (count_of b) h, p)

  pub meet_absent : i < count_of b → earlier (record_at b i) d ≡ false → earlier d (record_at b i) ≡ true → meet_of b i d ≡ Break (Absent i)
  unfolding meet_of
  meet_absent h p q = rw (lt-ltb i (count_of b) h, p, q)

  pub meet_same : i < count_of b → earlier (record_at b i) d ≡ false → earlier d (record_at b i) ≡ false → same (record_bytes d) (own_bytes b i) ≡ true → meet_of b i d ≡ Continue (suc i)
  unfolding meet_of
  meet_same h p q r = rw (lt-ltb i (count_of b) h, p, q, r)

  pub meet_different : i < count_of b → earlier (record_at b i) d ≡ false → earlier d (record_at b i) ≡ false → same (record_bytes d) (own_bytes b i) ≡ false → meet_of b i d ≡ Break (Different i)
  unfolding meet_of
  meet_different h p q r = rw (lt-ltb i (count_of b) h, p, q, r)
