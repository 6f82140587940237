-- Places in a list of records, and lists whose records rise. Assumes nothing.
use Prim.Native.Nat.{ℕ, zero, suc, ◌+◌, ◌-◌, ◌<◌}
use native.Mathlib.Omega.{arith}
use native.Mathlib.Nat.{zero-add, suc-add, eq-zero-or-pos}
use mathlib.Core.Path.{◌≡◌, refl, sym}
use mathlib.Core.Logic.{◌⊎◌, ⊎_elim, inl, inr}
use mathlib.Core.List.{List, [], ◌∷◌, ◌++◌}
use lib.ListN.{length, get_or}
use Rattle.record.specs.declared.Record.{Record}
use Rattle.demands.specs.List.{StandsAt, Stands, Before, Rising}

pub at_short : (rs : List Record) (i : ℕ) (r : Record) → StandsAt rs i r → i < length rs
unfolding StandsAt
at_short [] i r h = absurd h
at_short (t ∷ ts) zero r h = omega arith
at_short (t ∷ ts) (suc i) r h = let k = at_short ts i r h in omega arith

-- a record stands at each place
pub stands-there : (rs : List Record) (i : ℕ) (d : Record) → i < length rs → StandsAt rs i (get_or rs i d)
unfolding StandsAt
stands-there [] i d h = let z : ⊥ = omega arith in absurd z
stands-there (r ∷ rs) zero d h = refl
stands-there (r ∷ rs) (suc i) d h = stands-there rs i d (omega arith)

pub at_left : (xs ys : List Record) (i : ℕ) (r : Record) → StandsAt xs i r → StandsAt (xs ++ ys) i r
unfolding StandsAt
at_left [] ys i r h = absurd h
at_left (x ∷ xs) ys zero r h = h
at_left (x ∷ xs) ys (suc i) r h = at_left xs ys i r h

pub at_right : (xs ys : List Record) (i : ℕ) (r : Record) → StandsAt ys i r → StandsAt (xs ++ ys) (length xs + i) r
unfolding StandsAt
at_right [] ys i r h = rw zero-add h
at_right (x ∷ xs) ys i r h = rw suc-add (at_right xs ys i r h)

-- the place in the second of two lists
record Past (xs ys : List Record) (i : ℕ) (r : Record) : Type 0 where
  beyond : ℕ
  adds : i ≡ length xs + beyond
  there : StandsAt ys beyond r

later : (x : Record) (xs ys : List Record) (i : ℕ) (r : Record) → Past xs ys i r → Past (x ∷ xs) ys (suc i) r
later x xs ys i r p = record { beyond = p.beyond; adds = omega arith; there = p.there }

at_cases : (xs ys : List Record) (i : ℕ) (r : Record) → StandsAt (xs ++ ys) i r → StandsAt xs i r ⊎ Past xs ys i r
unfolding StandsAt
at_cases [] ys i r h = inr (record { beyond = i; adds = sym (zero-add i); there = h })
at_cases (x ∷ xs) ys zero r h = inl h
at_cases (x ∷ xs) ys (suc i) r h = ⊎_elim inl (λ p. inr (later x xs ys i r p)) (at_cases xs ys i r h)

pub stands-left : (xs ys : List Record) (r : Record) → Stands xs r → Stands (xs ++ ys) r
stands-left xs ys r h = record { place = h.place; there = at_left xs ys h.place r h.there }

pub stands-right : (xs ys : List Record) (r : Record) → Stands ys r → Stands (xs ++ ys) r
stands-right xs ys r h = record { place = length xs + h.place; there = at_right xs ys h.place r h.there }

pub stands_cases : (xs ys : List Record) (r : Record) → Stands (xs ++ ys) r → Stands xs r ⊎ Stands ys r
stands_cases xs ys r h =
    ⊎_elim (λ k. inl (record { place = h.place; there = k })) (λ p. inr (record { place = p.beyond; there = p.there })) (at_cases xs ys h.place r h.there)

-- ---- rising

module _ (xs ys : List Record) (in-xs : Rising xs) (in_ys : Rising ys) (between : (r t : Record) → Stands xs r → Stands ys t → Before r t) where
  rising_cases : (i j : ℕ) (r t : Record) → i < j → StandsAt xs i r ⊎ Past xs ys i r → StandsAt xs j t ⊎ Past xs ys j t → Before r t
  rising_cases i j r t k (inl a) (inl b) = in-xs i j r t k a b
  rising_cases i j r t k (inl a) (inr b) = between r t (record { place = i; there = a }) (record { place = b.beyond; there = b.there })
  rising_cases i j r t k (inr a) (inl b) = let short = at_short xs j t b in let z : ⊥ = omega arith in absurd z
  rising_cases i j r t k (inr a) (inr b) = in_ys a.beyond b.beyond r t (omega arith) a.there b.there

  pub rising-append : Rising (xs ++ ys)
  rising-append i j r t k a b = rising_cases i j r t k (at_cases xs ys i r a) (at_cases xs ys j t b)

not-before_itself : (r : Record) → Before r r → ⊥
not-before_itself r (inl k) = omega arith
not-before_itself r (inr e) = omega arith

-- in a rising list no record stands twice
pub rising_once : (rs : List Record) → Rising rs → (i j : ℕ) (r : Record) → StandsAt rs i r → StandsAt rs j r → i ≡ j
rising_once rs h i j r a b =
    ⊎_elim
    (λ e. ⊎_elim (λ f. omega arith) (λ k. absurd (not-before_itself r (h i j r r (omega arith) a b))) (eq-zero-or-pos (j - i)))
    (λ k. absurd (not-before_itself r (h j i r r (omega arith) b a)))
    (eq-zero-or-pos (i - j))
