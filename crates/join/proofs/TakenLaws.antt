-- A list of whole readable records is taken by the join: of its checks only the set's and the room's are open. Assumes nothing.
use Rattle.std.specs.Prelude.{Ok, Err}
use Prim.Native.Nat.{ℕ, zero, suc, ◌+◌, ◌*◌, ◌/◌, ◌%◌, ◌≤◌, ◌<◌}
use native.Mathlib.Omega.{arith}
use mathlib.Core.Bool.{Bool, true, false, not}
use mathlib.Core.List.{List}
use mathlib.Core.Path.{◌≡◌, sym, ◌∙◌}
use lib.Dec.{ltb}
use lib.ListN.{length}
use borrow.Author.Tests.{le-ltb, eq-eqb}
use Rattle.tables.specs.declared.Set.{Set}
use Rattle.tables.specs.declared.Refusal.TheVariants.{BadSet, Records, Room}
use Rattle.tables.specs.Refusal.{unless, first_of}
use Rattle.tables.specs.Set.{good}
use Rattle.record.specs.Layout.{spot_width, record_at}
use Rattle.record.specs.Readable.{readable}
use Rattle.sized.specs.Sized.{sized_width}
use Rattle.join.specs.Join.{first_bad, records_checks, join_checks, joined, join_of, join_by}

-- none of n readable records is the first bad one
none-bad : (rows cols : ℕ) (b : List ℕ) (n i : ℕ) → ((k : ℕ) → i ≤ k → k < i + n → readable rows cols (record_at b k) ≡ true) → first_bad false rows cols b n i ≡ i + n
unfolding first_bad
none-bad rows cols b zero i all = omega arith
none-bad rows cols b (suc n) i all =
    rw (all i (omega arith) (omega arith)) (none-bad rows cols b n (suc i) (λ k p q. all k (omega arith) (omega arith)) ∙ omega arith)

-- a bad set or a short room is not a bad record
set_or_room : (a b : Bool) (i : ℕ) → unless a BadSet (unless b Room (Ok tt)) ≡ Err (Records i) → ⊥
unfolding unless
set_or_room true b i h = let z : ◌≡◌ {A = ℕ} 0 1 = cc in omega arith
set_or_room false true i h = let z : ◌≡◌ {A = ℕ} 0 1 = cc in omega arith
set_or_room false false i h = let z : ◌≡◌ {A = ℕ} 0 1 = cc in omega arith

-- n whole records, each readable for the sides
pub record Taken (rows cols n : ℕ) (b : List ℕ) : Type 0 where
  pub rows-most : rows ≤ 4096
  pub cols-most : cols ≤ 4096
  pub long : length b ≡ n * spot_width
  pub fair : (k : ℕ) → k < n → readable rows cols (record_at b k) ≡ true

module _ (rows cols n : ℕ) (b : List ℕ) (p : Taken rows cols n b) where
  pub taken_count : length b / spot_width ≡ n
  taken_count = omega (arith, p.long)

  -- of the checks only the set's and the room's are open
  taken_open : (s : Set) (room : ℕ) → first_of (join_checks false s rows cols b room) ≡ unless (not (good s)) BadSet (unless (ltb room (n * sized_width)) Room (Ok tt))
  unfolding join_checks first_of unless
  taken_open s room =
      let whole : length b % spot_width ≡ 0 = omega (arith, p.long) in
      let none : first_bad false rows cols b n 0 ≡ n = none-bad rows cols b n 0 (λ k low less. p.fair k (omega arith)) ∙ omega arith in
      rw (le-ltb _ _ p.rows-most, le-ltb _ _ p.cols-most, eq-eqb _ _ whole, taken_count, none, le-ltb n n (omega arith))

  -- the list's records pass their checks
  pub taken_listed : first_of (records_checks false rows cols b) ≡ Ok tt
  unfolding first_of unless
  taken_listed =
      let whole : length b % spot_width ≡ 0 = omega (arith, p.long) in
      let none : first_bad false rows cols b n 0 ≡ n = none-bad rows cols b n 0 (λ k low less. p.fair k (omega arith)) ∙ omega arith in
      rw (eq-eqb _ _ whole, taken_count, none, le-ltb n n (omega arith))

  -- there is no refusal 5
  pub taken_records : (s : Set) (room i : ℕ) → first_of (join_checks false s rows cols b room) ≡ Err (Records i) → ⊥
  taken_records s room i h = set_or_room (not (good s)) (ltb room (n * sized_width)) i (sym (taken_open s room) ∙ h)

  -- and with a good set and room for the sized records the checks pass
  pub taken_fine : (s : Set) (room : ℕ) → good s ≡ true → n * sized_width ≤ room → first_of (join_checks false s rows cols b room) ≡ Ok tt
  unfolding unless
  taken_fine s room is-good h = taken_open s room ∙ rw (is-good, le-ltb _ _ h)

  pub taken_joined : (s : Set) (out : List ℕ) → good s ≡ true → n * sized_width ≤ length out → (join_of s rows cols b out).answer ≡ Ok n
  unfolding join_by joined
  taken_joined s out is-good h = rw (taken_fine s (length out) is-good h, taken_count)
