-- Records put in the order of their keys: one list, whatever order they came in. Assumes nothing.
use native.Mathlib.Omega.{arith}
use mathlib.Core.Path.{◌≡◌, refl, sym, subst, ◌∙◌}
use mathlib.Core.Bool.{Bool, true, false, cond}
use mathlib.Core.Logic.{◌⊎◌, ⊎_elim, inl, inr}
use mathlib.Core.List.{List, [], ◌∷◌}
use borrow.Author.Tests.{lt-ltb, le-ltb, eq-eqb, ne_eqb}
use Rattle.record.specs.declared.Record.{Record}
use Rattle.demands.specs.List.{Before}
use Rattle.fed.specs.Order.{earlier, insert, in_order}
use Rattle.fed.proofs.Pairs.{In, Pairs}

-- ---- the order

pub before_twice : (r s t : Record) → Before r s → Before s t → Before r t
before_twice r s t (inl a) (inl b) = inl (omega arith)
before_twice r s t (inl a) (inr b) = inl (omega arith)
before_twice r s t (inr a) (inl b) = inl (omega arith)
before_twice r s t (inr a) (inr b) = let z : ⊥ = omega arith in absurd z

pub not_both : (r t : Record) → Before r t → Before t r → ⊥
not_both r t (inl a) (inl b) = omega arith
not_both r t (inl a) (inr b) = omega arith
not_both r t (inr a) (inl b) = omega arith
not_both r t (inr a) (inr b) = omega arith

-- one of two records comes before the other
abbrev pub Apart : Record → Record → Type 0
Apart r t = Before r t ⊎ Before t r

before-earlier : (r t : Record) → Before r t → earlier r t ≡ true
unfolding earlier
before-earlier r t (inl a) = rw (lt-ltb _ _ a)
before-earlier r t (inr a) = rw (le-ltb r.key t.key (omega arith), eq-eqb r.key t.key (omega arith), lt-ltb r.polarity t.polarity (omega arith))

after-earlier : (r t : Record) → Before t r → earlier r t ≡ false
unfolding earlier
after-earlier r t (inl a) = rw (le-ltb r.key t.key (omega arith), ne_eqb r.key t.key (λ e. omega arith))
after-earlier r t (inr a) = rw (le-ltb r.key t.key (omega arith), eq-eqb r.key t.key (omega arith), le-ltb r.polarity t.polarity (omega arith))

-- ---- one record put into a list

-- what stands in it then
pub insert-only : (u r : Record) (ts : List Record) → In u (insert r ts) → (r ≡ u) ⊎ In u ts
unfolding insert In
insert-only u r [] h = h
insert-only u r (t ∷ ts) h = go (earlier r t) h (insert-only u r ts)
  where
    go : (b : Bool) → In u (cond b (r ∷ t ∷ ts) (t ∷ insert r ts)) → (In u (insert r ts) → (r ≡ u) ⊎ In u ts) → (r ≡ u) ⊎ ((t ≡ u) ⊎ In u ts)
    go true h f = h
    go false (inl e) f = inr (inl e)
    go false (inr k) f = ⊎_elim inl (λ q. inr (inr q)) (f k)

pub insert_all : (u r : Record) (ts : List Record) → (r ≡ u) ⊎ In u ts → In u (insert r ts)
unfolding insert In
insert_all u r [] h = h
insert_all u r (t ∷ ts) h = go (earlier r t) h (insert_all u r ts)
  where
    go : (b : Bool) → (r ≡ u) ⊎ ((t ≡ u) ⊎ In u ts) → ((r ≡ u) ⊎ In u ts → In u (insert r ts)) → In u (cond b (r ∷ t ∷ ts) (t ∷ insert r ts))
    go true h f = h
    go false (inl e) f = inr (f (inl e))
    go false (inr (inl e)) f = inl e
    go false (inr (inr k)) f = inr (f (inr k))

pub insert_rises : (r : Record) (ts : List Record) → Pairs Before ts → ((t : Record) → In t ts → Apart r t) → Pairs Before (insert r ts)
unfolding insert In Pairs
insert_rises r [] p h = (λ t k. absurd k, refl)
insert_rises r (t ∷ ts) p h = ⊎_elim first (later (insert_rises r ts p.1 (λ u q. h u (inr q)))) (h t (inl refl))
  where
    first : Before r t → Pairs Before (cond (earlier r t) (r ∷ t ∷ ts) (t ∷ insert r ts))
    first a = rw (before-earlier r t a) (λ u k. ⊎_elim (λ e. rw (← e) a) (λ q. before_twice r t u a (p.0 u q)) k, p)

    later : Pairs Before (insert r ts) → Before t r → Pairs Before (cond (earlier r t) (r ∷ t ∷ ts) (t ∷ insert r ts))
    later ih a = rw (after-earlier r t a) (λ u k. ⊎_elim (λ e. rw (← e) a) (λ q. p.0 u q) (insert-only u r ts k), ih)

-- ---- a list put in order

pub order_only : (u : Record) (rs : List Record) → In u (in_order rs) → In u rs
unfolding in_order In
order_only u [] h = h
order_only u (r ∷ rs) h = ⊎_elim inl (λ k. inr (order_only u rs k)) (insert-only u r (in_order rs) h)

pub order_all : (u : Record) (rs : List Record) → In u rs → In u (in_order rs)
unfolding in_order In
order_all u [] h = h
order_all u (r ∷ rs) (inl e) = insert_all u r (in_order rs) (inl e)
order_all u (r ∷ rs) (inr h) = insert_all u r (in_order rs) (inr (order_all u rs h))

pub order_rises : (rs : List Record) → Pairs Apart rs → Pairs Before (in_order rs)
unfolding in_order Pairs
order_rises [] p = refl
order_rises (r ∷ rs) p = insert_rises r (in_order rs) (order_rises rs p.1) (λ t k. p.0 t (order_only t rs k))

-- ---- two rising lists with the same members are one

not_itself : (r : Record) → Before r r → ⊥
not_itself r a = not_both r r a a

first-same : (x y : Record) (xs ys : List Record) → Pairs Before (x ∷ xs) → Pairs Before (y ∷ ys) → (y ≡ x) ⊎ In x ys → (x ≡ y) ⊎ In y xs → x ≡ y
unfolding Pairs
first-same x y xs ys p q (inl e) k = sym e
first-same x y xs ys p q (inr h) (inl e) = e
first-same x y xs ys p q (inr h) (inr k) = absurd (not_both x y (p.0 y k) (q.0 x h))

pub rises_unique : (xs ys : List Record) → Pairs Before xs → Pairs Before ys → ((r : Record) → In r xs → In r ys) → ((r : Record) → In r ys → In r xs) → xs ≡ ys
unfolding In Pairs
rises_unique [] [] p q f g = refl
rises_unique [] (y ∷ ys) p q f g = absurd (g y (inl refl))
rises_unique (x ∷ xs) [] p q f g = absurd (f x (inl refl))
rises_unique (x ∷ xs) (y ∷ ys) p q f g =
    let e : x ≡ y = first-same x y xs ys p q (f x (inl refl)) (g y (inl refl)) in
    let same : xs ≡ ys =
    rises_unique xs ys p.1 q.1
    (λ r h. ⊎_elim (λ d. absurd (not_itself r (subst (λ (z : Record). Before z r) (e ∙ d) (p.0 r h)))) (λ k. k) (f r (inr h)))
    (λ r h. ⊎_elim (λ d. absurd (not_itself r (subst (λ (z : Record). Before z r) (sym e ∙ d) (q.0 r h)))) (λ k. k) (g r (inr h))) in
    cc
