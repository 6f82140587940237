-- The scene's list and the untiled one tell the same, each scene pixel at each polarity at most once. Assumes nothing but that the levels have the scene's size, and that its sides are at most 2^24.
use Prim.Native.Nat.{ℕ, suc, ◌+◌, ◌-◌, ◌*◌, ◌/◌, ◌%◌, ◌≤◌, ◌<◌}
use native.Mathlib.Omega.{arith}
use native.Mathlib.Nat.{div-add-mod'}
use mathlib.Core.Path.{◌≡◌, refl, sym, ap, ◌∙◌}
use mathlib.Core.Bool.{Bool, true, false, cond, ◌&&◌, false≢true}
use mathlib.Core.Logic.{inl, inr}
use mathlib.Core.List.Permᴰ
use mathlib.Core.List.{List, [], ◌∷◌, map, Permᴰ}
use lib.Dec.{eqb}
use lib.ListN.{length}
use borrow.Author.Tests.{eq-eqb, eqb-true}
use Rattle.float.proofs.Bools.{both}
use Rattle.record.specs.declared.Record.{Record}
use Rattle.seamless.specs.Untiled.{Sight, sight_of, sight_whole, untiled, tiled}
use Rattle.seamless.specs.Claims.{In, count, of_pixel, SameOnce, Long, Sides}
use Rattle.seamless.proofs.Agree.{tiled-untiled}
use Rattle.detect.specs.Due.{due}
use Rattle.samples.specs.Level.{Maps}
use Rattle.demands.specs.List.{StandsAt, Rising, Before}
use Rattle.demands.proofs.Listed.{list_rises}

-- ---- lists in another order

perm_in : {A : Type 0} {a b : List A} (x : A) → Permᴰ a b → In x a → In x b
unfolding In
perm_in x Permᴰ.nil h = h
perm_in x (Permᴰ.cons e d) (inl h) = inl (h ∙ e)
perm_in x (Permᴰ.cons e d) (inr h) = inr (perm_in x d h)
perm_in x (Permᴰ.swap e f) (inl h) = inr (inl (h ∙ e))
perm_in x (Permᴰ.swap e f) (inr (inl h)) = inl (h ∙ f)
perm_in x (Permᴰ.swap e f) (inr (inr h)) = inr (inr h)
perm_in x (Permᴰ.trans d g) h = perm_in x g (perm_in x d h)

perm_count : {A : Type 0} {a b : List A} (test : A → Bool) → Permᴰ a b → count test a ≡ count test b
unfolding count
perm_count test Permᴰ.nil = refl
perm_count test (Permᴰ.cons e d) = rw (e, perm_count test d)
perm_count test (Permᴰ.swap e f) = rw (e, f) (omega arith)
perm_count test (Permᴰ.trans d g) = perm_count test d ∙ perm_count test g

perm_length : {A : Type 0} {a b : List A} → Permᴰ a b → length a ≡ length b
perm_length Permᴰ.nil = refl
perm_length (Permᴰ.cons e d) = ap suc (perm_length d)
perm_length (Permᴰ.swap e f) = refl
perm_length (Permᴰ.trans d g) = perm_length d ∙ perm_length g

-- ---- of a list in which at most one passes the test, two that do are one

none_in : {A : Type 0} (test : A → Bool) (xs : List A) (x : A) → count test xs ≤ 0 → In x xs → test x ≡ false
unfolding In count
none_in test [] x h i = absurd i
none_in test (y ∷ ys) x h (inl e) = rw e (go (test y) (omega arith))
  where
    go : (b : Bool) → cond b 1 0 ≤ 0 → b ≡ false
    go true k = let z : ⊥ = omega arith in absurd z
    go false k = refl
none_in test (y ∷ ys) x h (inr i) = none_in test ys x (omega arith) i

one_in : {A : Type 0} (test : A → Bool) (xs : List A) (x y : A) → count test xs ≤ 1 → In x xs → In y xs → test x ≡ true → test y ≡ true → x ≡ y
unfolding In count
one_in test [] x y h i j p q = absurd i
one_in test (z ∷ zs) x y h (inl e) (inl f) p q = e ∙ sym f
one_in test (z ∷ zs) x y h (inl e) (inr j) p q =
    let t : ◌≡◌ {A = ℕ} (cond (test z) 1 0) 1 = rw (← e, p) in
    absurd (false≢true (sym (none_in test zs y (omega arith) j) ∙ q))
one_in test (z ∷ zs) x y h (inr i) (inl f) p q =
    let t : ◌≡◌ {A = ℕ} (cond (test z) 1 0) 1 = rw (← f, q) in
    absurd (false≢true (sym (none_in test zs x (omega arith) i) ∙ p))
one_in test (z ∷ zs) x y h (inr i) (inr j) p q = one_in test zs x y (omega arith) i j p q

-- ---- a rising list

count_map : {A B : Type 0} (test : B → Bool) (t : A → B) (xs : List A) → count test (map t xs) ≡ count (λ x. test (t x)) xs
unfolding count
count_map test t [] = refl
count_map test t (x ∷ xs) = rw (count_map test t xs)

none_later : (test : Record → Bool) (rs : List Record) → ((i : ℕ) (u : Record) → StandsAt rs i u → test u ≡ false) → count test rs ≡ 0
unfolding count StandsAt
none_later test [] h = refl
none_later test (r ∷ rs) h = rw (h 0 r refl, none_later test rs (λ i u s. h (suc i) u s))

rising-count : (test : Record → Bool) (rs : List Record) → Rising rs → ((r u : Record) → test r ≡ true → test u ≡ true → Before r u → ⊥) → count test rs ≤ 1
unfolding count
rising-count test [] rise apart = omega arith
rising-count test (r ∷ rs) rise apart = go (test r) refl (rising-count test rs (λ i j a b k s t. unfold StandsAt in rise (suc i) (suc j) a b (omega arith) s t) apart)
  where
    later : test r ≡ true → (i : ℕ) (u : Record) → StandsAt rs i u → (b : Bool) → test u ≡ b → b ≡ false
    later e i u s true f = absurd (apart r u e f (unfold StandsAt in rise 0 (suc i) r u (omega arith) refl s))
    later e i u s false f = refl

    go : (b : Bool) → test r ≡ b → count test rs ≤ 1 → cond b 1 0 + count test rs ≤ 1
    go true e k = rw (none_later test rs (λ i u s. later e i u s (test u) refl)) (omega arith)
    go false e k = omega arith

-- ---- the two lists

-- the parts of the test
record OfPixel (row col polarity : ℕ) (v : Sight) : Type 0 where
  row_is : v.row ≡ row
  col-is : v.col ≡ col
  polarity-is : v.polarity ≡ polarity

of_pixel_lem : (row col polarity : ℕ) (v : Sight) → of_pixel row col polarity v ≡ true → OfPixel row col polarity v
unfolding of_pixel
of_pixel_lem row col polarity v h =
    let a = both (eqb v.row row && eqb v.col col) (eqb v.polarity polarity) h in
    let b = both (eqb v.row row) (eqb v.col col) a.0 in
    record { row_is = eqb-true _ _ b.0; col-is = eqb-true _ _ b.1; polarity-is = eqb-true _ _ a.1 }

its_pixel : (v : Sight) (row col polarity : ℕ) → v.row ≡ row → v.col ≡ col → v.polarity ≡ polarity → of_pixel row col polarity v ≡ true
unfolding of_pixel
its_pixel v row col polarity a b c = rw (eq-eqb _ _ a, eq-eqb _ _ b, eq-eqb _ _ c)

not-before : (r u : Record) → r.key ≡ u.key → r.polarity ≡ u.polarity → Before r u → ⊥
not-before r u k p (inl h) = omega arith
not-before r u k p (inr h) = omega arith

same_key : (m : Maps) (row col polarity : ℕ) (r u : Record) → OfPixel row col polarity (sight_whole m r) → OfPixel row col polarity (sight_whole m u) → Before r u → ⊥
unfolding sight_whole sight_of
same_key m row col polarity r u a b =
    let w : ℕ = m.frame.cols in
    let d : r.key / w ≡ u.key / w = a.row_is ∙ sym b.row_is in
    let e : r.key % w ≡ u.key % w = a.col-is ∙ sym b.col-is in
    let f : r.key / w * w + r.key % w ≡ u.key / w * w + u.key % w = rw (d, e) in
    let k : r.key ≡ u.key = sym (div-add-mod' r.key w) ∙ f ∙ div-add-mod' u.key w in
    not-before r u k (a.polarity-is ∙ sym b.polarity-is)

-- No scene pixel stands in the untiled list twice at one polarity.
pub untiled_once : (m : Maps) (row col polarity : ℕ) → count (of_pixel row col polarity) (untiled m) ≤ 1
unfolding untiled
untiled_once m row col polarity =
    rw (count_map (of_pixel row col polarity) (sight_whole m) (due m))
    (rising-count (λ r. of_pixel row col polarity (sight_whole m r)) (due m) (list_rises m)
    (λ r u p q.
    let a = of_pixel_lem row col polarity (sight_whole m r) p in
    let b = of_pixel_lem row col polarity (sight_whole m u) q in
    same_key m row col polarity r u a b))

-- The tiled list tells what the untiled one tells, each scene pixel at each polarity once: a bijection. Of x, y, order key and home pixel nothing is claimed.
pub scene_bijection : (step : ℕ) → 0 < step → (m : Maps) → Long m → Sides m → SameOnce (tiled step m) (untiled m)
scene_bijection step advances m whole sides =
    let p = tiled-untiled step advances m whole sides in
    record {
      reordered = p;
      same = λ v. (perm_in v p, perm_in v (Permᴰ.symm p));
      as_many = perm_length p;
      once_a = λ row col polarity. rw (perm_count (of_pixel row col polarity) p) (untiled_once m row col polarity);
      once_b = untiled_once m;
      only = λ u v i j a b c.
          one_in (of_pixel v.row v.col v.polarity) (untiled m) u v (untiled_once m v.row v.col v.polarity) (perm_in u p i) j
          (its_pixel u _ _ _ a b c) (its_pixel v _ _ _ refl refl refl);
    }
