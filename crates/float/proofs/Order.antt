-- Comparisons of two values: NaN, equal values, the order one way round, and through a third value. Assumes nothing.
use mathlib.Core.Path.{◌≡◌, refl, sym, ap, ◌∙◌, subst}
use mathlib.Core.Logic.{inl, inr}
use Prim.Native.Nat.{ℕ, ◌+◌, ◌*◌, ◌≤◌, ◌<◌, zero-le}
use native.Mathlib.Nat.{le_trans, le_of_eq, le_of_lt, lt_of_lt_of_le, lt_of_le_of_lt, eq-zero-or-pos, eq-or-lt_of_le, mul-pos, mul-one, zero-mul, mul_right_comm, mul-le-mul_right, mul-lt-mul_of_pos_right, lt_of_mul-lt-mul_right, le_of_mul-le-mul_right}
use native.Mathlib.Omega.{arith}
use mathlib.Core.Bool.{Bool, true, false, not, ◌&&◌, ◌||◌, true≢false, false≢true}
use lib.IntN.{ℤ, pos}
use lib.Dec.{T, ltb, eqb, ltb→lt, lt→ltb, eqb→eq, eqb_refl}
use lib.Ieee.{Float, nan, inf, fin, up, down, below, level, lt, le, eq, is_nan}
use lib.Ieee.Exact.{HasValue}
use lib.Ieee.Fits.{and_l, and_r, down_pos}
use lib.Ieee.Order.{transfer}
use lib.Ieee.Positive.{num, den, first_pos}
use borrow.Author.Tests.{le-ltb, ltb-false}
use Rattle.float.specs.Num.{f0}
use Rattle.float.specs.Small.{finite}
use Rattle.float.proofs.Floats.{zero_is}

-- ---- beside a NaN
pub lt-nan : (a : Float) → (lt a nan ≡ false) × (lt nan a ≡ false)
unfolding lt
lt-nan nan = (refl, refl)
lt-nan (inf s) = (refl, refl)
lt-nan (fin s m e) = (refl, refl)

-- ---- two numbers, neither of which is a NaN: of two equal ones neither is below, and of two others only one is
same_size : (s : Bool) (a : ℕ) (t : Bool) (b : ℕ) → T (level s a t b) → below s a t b ≡ false
same_size false a false b h = let e = eqb→eq a b (and_l (eqb a b) true h) in le-ltb a b (omega arith)
same_size false a true b h = refl
same_size true a false b h =
    let e = eqb→eq a b (and_l (eqb a b) (eqb a 0) h) in
    let z = eqb→eq a 0 (and_r (eqb a b) (eqb a 0) h) in
    le-ltb 0 (a + b) (omega arith)
same_size true a true b h = let e = eqb→eq a b (and_l (eqb a b) true h) in le-ltb b a (omega arith)

turned : (s : Bool) (a : ℕ) (t : Bool) (b : ℕ) → T (level s a t b) → below t b s a ≡ false
turned false a false b h = let e = eqb→eq a b (and_l (eqb a b) true h) in le-ltb b a (omega arith)
turned false a true b h =
    let e = eqb→eq a b (and_l (eqb a b) (eqb a 0) h) in
    let z = eqb→eq a 0 (and_r (eqb a b) (eqb a 0) h) in
    le-ltb 0 (b + a) (omega arith)
turned true a false b h = refl
turned true a true b h = let e = eqb→eq a b (and_l (eqb a b) true h) in le-ltb a b (omega arith)

one_way : (s : Bool) (a : ℕ) (t : Bool) (b : ℕ) → T (below t b s a) → below s a t b ≡ false
one_way false a false b h = let l = ltb→lt b a h in le-ltb a b (omega arith)
one_way false a true b h = refl
one_way true a false b h = absurd h
one_way true a true b h = let l = ltb→lt a b h in le-ltb b a (omega arith)

pub equal_number : (a b : Float) → T (eq a b) → is_nan a ≡ false
unfolding eq is_nan
equal_number nan b h = absurd h
equal_number (inf s) b h = refl
equal_number (fin s m e) b h = refl

pub equal_not_below : (a b : Float) → T (eq a b) → lt a b ≡ false
unfolding eq lt
equal_not_below nan b h = absurd h
equal_not_below (inf s) nan h = absurd h
equal_not_below (inf true) (inf true) h = refl
equal_not_below (inf false) (inf t) h = refl
equal_not_below (inf true) (inf false) h = absurd h
equal_not_below (inf s) (fin t n d) h = absurd h
equal_not_below (fin s m e) nan h = absurd h
equal_not_below (fin s m e) (inf t) h = absurd h
equal_not_below (fin s m e) (fin t n d) h = same_size s (m * up e * down d) t (n * up d * down e) h

pub equal_not-above : (a b : Float) → T (eq a b) → lt b a ≡ false
unfolding eq lt
equal_not-above nan b h = absurd h
equal_not-above (inf s) nan h = absurd h
equal_not-above (inf true) (inf true) h = refl
equal_not-above (inf false) (inf false) h = refl
equal_not-above (inf true) (inf false) h = absurd h
equal_not-above (inf false) (inf true) h = absurd h
equal_not-above (inf s) (fin t n d) h = absurd h
equal_not-above (fin s m e) nan h = absurd h
equal_not-above (fin s m e) (inf t) h = absurd h
equal_not-above (fin s m e) (fin t n d) h = turned s (m * up e * down d) t (n * up d * down e) h

pub below_number : (a b : Float) → T (lt a b) → (is_nan a ≡ false) × (is_nan b ≡ false)
unfolding lt is_nan
below_number nan b h = absurd h
below_number (inf s) nan h = absurd h
below_number (inf s) (inf t) h = (refl, refl)
below_number (inf s) (fin t n d) h = (refl, refl)
below_number (fin s m e) nan h = absurd h
below_number (fin s m e) (inf t) h = (refl, refl)
below_number (fin s m e) (fin t n d) h = (refl, refl)

pub below_one_way : (a b : Float) → T (lt b a) → lt a b ≡ false
unfolding lt
below_one_way nan b h = refl
below_one_way (inf s) nan h = refl
below_one_way (inf false) (inf t) h = refl
below_one_way (inf true) (inf true) h = refl
below_one_way (inf true) (inf false) h = absurd h
below_one_way (inf false) (fin t n d) h = refl
below_one_way (inf true) (fin t n d) h = absurd h
below_one_way (fin s m e) nan h = absurd h
below_one_way (fin s m e) (inf true) h = refl
below_one_way (fin s m e) (inf false) h = absurd h
below_one_way (fin s m e) (fin t n d) h = one_way s (m * up e * down d) t (n * up d * down e) h

-- ---- what is not below a number that is above another is above that other too: these are H / dh, L / dl and X / dx
module _ (H L X dh dl dx : ℕ) (ph : 0 < dh) (pl : 0 < dl) (px : 0 < dx) where
  over_plus : H * dl < L * dh → L * dx ≤ X * dl → H * dx < X * dh
  over_plus u v = lt_of_mul-lt-mul_right dl (lt_of_lt_of_le (lt_of_le_of_lt (le_of_eq (mul_right_comm H dx dl)) (mul-lt-mul_of_pos_right u px)) (le_trans (le_of_eq (mul_right_comm L dh dx)) (le_trans (mul-le-mul_right dh v) (le_of_eq (mul_right_comm X dl dh)))))

  over_minus : L * dh < H * dl → X * dl ≤ L * dx → X * dh < H * dx
  over_minus u v = lt_of_mul-lt-mul_right dl (lt_of_le_of_lt (le_trans (le_of_eq (mul_right_comm X dh dl)) (le_trans (mul-le-mul_right dh v) (le_of_eq (mul_right_comm L dx dh)))) (lt_of_lt_of_le (mul-lt-mul_of_pos_right u px) (le_of_eq (mul_right_comm H dl dx))))

  some : (A d d' : ℕ) → 0 < d' → 0 < A * d → 0 < A * d'
  some A d d' p u = mul-pos (first_pos A d u) p

  over : (s t r : Bool) → T (below s (H * dl) t (L * dh)) → below r (X * dl) t (L * dx) ≡ false → T (below s (H * dx) r (X * dh))
  over false false false u v = lt→ltb (H * dx) (X * dh) (over_plus (ltb→lt (H * dl) (L * dh) u) (ltb-false (X * dl) (L * dx) v))
  over false false true u v =
      let a = ltb→lt (H * dl) (L * dh) u in
      let b = some L dh dx px (omega arith) in
      let c = ltb-false 0 (X * dl + L * dx) v in
      let z : ⊥ = omega arith in
      absurd z
  over false true r u v = absurd u
  over true false false u v =
      let a = ltb→lt 0 (H * dl + L * dh) u in
      let b = ltb-false (X * dl) (L * dx) v in
      lt→ltb 0 (H * dx + X * dh) (elim (eq-zero-or-pos (H * dl)) [
        | inl z ↦ let c = some L dh dx px (omega arith) in let d = some X dl dh ph (omega arith) in omega arith
        | inr p ↦ let c = some H dl dx px p in omega arith
      ])
  over true false true u v =
      let a = ltb→lt 0 (H * dl + L * dh) u in
      let b = ltb-false 0 (X * dl + L * dx) v in
      lt→ltb (X * dh) (H * dx) (elim (eq-zero-or-pos (L * dh)) [
        | inl z ↦ let c = some H dl dx px (omega arith) in elim (eq-zero-or-pos (X * dh)) [
          | inl y ↦ omega arith
          | inr y ↦ let d = some X dh dl pl y in omega arith
        ]
        | inr p ↦ let c = some L dh dx px p in omega arith
      ])
  over true true false u v =
      let a = ltb→lt (L * dh) (H * dl) u in
      let b = some H dl dx px (omega arith) in
      lt→ltb 0 (H * dx + X * dh) (omega arith)
  over true true true u v = lt→ltb (X * dh) (H * dx) (over_minus (ltb→lt (L * dh) (H * dl) u) (ltb-false (L * dx) (X * dl) v))

pub not_below_over : (high low x : Float) → T (lt high low) → lt x low ≡ false → T (not (is_nan x)) → T (lt high x)
unfolding lt is_nan
not_below_over nan low x u v n = absurd u
not_below_over (inf false) nan x u v n = absurd u
not_below_over (inf false) (inf t) x u v n = absurd u
not_below_over (inf false) (fin t k d) x u v n = absurd u
not_below_over (inf true) nan x u v n = absurd u
not_below_over (inf true) (inf true) x u v n = absurd u
not_below_over (inf true) (inf false) nan u v n = absurd n
not_below_over (inf true) (inf false) (inf true) u v n = absurd (true≢false v)
not_below_over (inf true) (inf false) (inf false) u v n = tt
not_below_over (inf true) (inf false) (fin r j c) u v n = tt
not_below_over (inf true) (fin t k d) nan u v n = absurd n
not_below_over (inf true) (fin t k d) (inf true) u v n = absurd (true≢false v)
not_below_over (inf true) (fin t k d) (inf false) u v n = tt
not_below_over (inf true) (fin t k d) (fin r j c) u v n = tt
not_below_over (fin s m e) nan x u v n = absurd u
not_below_over (fin s m e) (inf true) x u v n = absurd u
not_below_over (fin s m e) (inf false) nan u v n = absurd n
not_below_over (fin s m e) (inf false) (inf true) u v n = absurd (true≢false v)
not_below_over (fin s m e) (inf false) (inf false) u v n = tt
not_below_over (fin s m e) (inf false) (fin r j c) u v n = absurd (true≢false v)
not_below_over (fin s m e) (fin t k d) nan u v n = absurd n
not_below_over (fin s m e) (fin t k d) (inf true) u v n = absurd (true≢false v)
not_below_over (fin s m e) (fin t k d) (inf false) u v n = tt
not_below_over (fin s m e) (fin t k d) (fin r j c) u v n = over (m * up e) (k * up d) (j * up c) (down e) (down d) (down c) (down_pos e) (down_pos d) (down_pos c) s t r u v

-- ---- two negative values
or_l : (a b : Bool) → T a → T (a || b)
or_l true b t = tt
or_l false b t = absurd t

or_r : (a b : Bool) → T b → T (a || b)
or_r true b t = tt
or_r false b t = t

neg-le : (a b : ℕ) → b ≤ a → T (ltb b a || (eqb a b && true))
neg-le a b h = elim (eq-or-lt_of_le h) [ inl p ↦ or_r (ltb b a) (eqb a b && true) (subst (λ (x : ℕ). T (eqb a x && true)) (sym p) (both (eqb a a) (eqb_refl a))) | inr q ↦ or_l (ltb b a) (eqb a b && true) (lt→ltb b a q) ]
  where
    both : (x : Bool) → T x → T (x && true)
    both true t = tt
    both false t = t

pub le_of_negatives : (x y : Float) (a c b c' : ℕ) → 0 < c → 0 < c' → HasValue x true a c → HasValue y true b c' → b * c ≤ a * c' → T (le x y)
unfolding le
le_of_negatives nan y a c b c' C C' p q h = absurd p
le_of_negatives (inf s) y a c b c' C C' p q h = absurd p
le_of_negatives (fin false m e) y a c b c' C C' p q h = absurd (false≢true p.0)
le_of_negatives (fin true m e) nan a c b c' C C' p q h = absurd q
le_of_negatives (fin true m e) (inf t) a c b c' C C' p q h = absurd q
le_of_negatives (fin true m e) (fin false n d) a c b c' C C' p q h = absurd (false≢true q.0)
le_of_negatives (fin true m e) (fin true n d) a c b c' C C' p q h =
    neg-le (m * up e * down d) (n * up d * down e) (transfer (n * up d) (m * up e) (down d) (down e) b a c' c C' C q.1 p.1 h)

-- ---- a value that is not below 0, either zero among them

-- what `le` says of two numbers without a sign
pub le_says : (a b : ℕ) → T (ltb a b || (eqb a b && true)) → a ≤ b
le_says a b t = go (ltb a b) (eqb a b) (ltb→lt a b) (eqb→eq a b) t
  where
    go : (x y : Bool) → (T x → a < b) → (T y → a ≡ b) → T (x || (y && true)) → a ≤ b
    go true y p q t = le_of_lt (p tt)
    go false true p q t = le_of_eq (q tt)
    go false false p q t = absurd t

-- with a sign it is 0
pub minus_none : (m : ℕ) (e : ℤ) → T (le f0 (fin true m e)) → m * up e ≡ 0
unfolding le
minus_none m e t = from (subst (λ (z : Float). T (le z (fin true m e))) zero_is t)
  where
    plain : (n d : ℕ) → 0 * 1 * d ≡ n * 1 → n ≡ 0
    plain n d k = sym (mul-one n) ∙ sym k ∙ zero-mul d

    from : T (le (fin false 0 (pos 0)) (fin true m e)) → m * up e ≡ 0
    from t = plain (m * up e) (down e) (eqb→eq (0 * 1 * down e) (m * up e * 1) (and_l (eqb (0 * 1 * down e) (m * up e * 1)) (eqb (0 * 1 * down e) 0) t))

-- at most y, which is b / c, it is a number whose size is at most b / c
pub up_to : (x y : Float) (b c : ℕ) → HasValue y false b c → T (le f0 x) → T (le x y) → num x * c ≤ b * den x
unfolding le
up_to nan y b c v p t = absurd t
up_to (inf s) y b c v p t = le_trans (le_of_eq (zero-mul c)) zero-le
up_to (fin s m e) nan b c v p t = absurd v
up_to (fin s m e) (inf r) b c v p t = absurd v
up_to (fin true m e) (fin r n d) b c v p t = le_trans (le_of_eq (ap (λ (k : ℕ). k * c) (minus_none m e p) ∙ zero-mul c)) zero-le
up_to (fin false m e) (fin true n d) b c v p t = absurd (true≢false v.0)
up_to (fin false m e) (fin false n d) b c v p t =
    le_of_mul-le-mul_right
    (le_trans (le_of_eq (mul_right_comm (m * up e) c (down d)))
    (le_trans (mul-le-mul_right c (le_says (m * up e * down d) (n * up d * down e) t))
    (le_of_eq (mul_right_comm (n * up d) (down e) c ∙ ap (λ (k : ℕ). k * down e) v.1 ∙ mul_right_comm b (down d) (down e)))))
    (down_pos d)

-- not below y, which is b / c, it has a size of at least b / c
pub at_least : (x y : Float) (b c : ℕ) → HasValue y false b c → finite x ≡ true → T (le y x) → b * den x ≤ num x * c
unfolding le finite
at_least nan y b c v f t = absurd (false≢true f)
at_least (inf s) y b c v f t = absurd (false≢true f)
at_least (fin s m e) nan b c v f t = absurd v
at_least (fin s m e) (inf r) b c v f t = absurd v
at_least (fin s m e) (fin true n d) b c v f t = absurd (true≢false v.0)
at_least (fin true m e) (fin false n d) b c v f t =
    let none : n * up d * down e ≡ 0 = eqb→eq (n * up d * down e) 0 (and_r (eqb (n * up d * down e) (m * up e * down d)) (eqb (n * up d * down e) 0) t) in
    le_of_mul-le-mul_right (le_trans (le_of_eq (mul_right_comm b (down e) (down d) ∙ ap (λ (k : ℕ). k * down e) (sym v.1) ∙ mul_right_comm (n * up d) c (down e) ∙ ap (λ (k : ℕ). k * c) none ∙ zero-mul c)) zero-le) (down_pos d)
at_least (fin false m e) (fin false n d) b c v f t =
    le_of_mul-le-mul_right
    (le_trans (le_of_eq (mul_right_comm b (down e) (down d) ∙ ap (λ (k : ℕ). k * down e) (sym v.1) ∙ mul_right_comm (n * up d) c (down e)))
    (le_trans (mul-le-mul_right c (le_says (n * up d * down e) (m * up e * down d) t))
    (le_of_eq (mul_right_comm (m * up e) (down d) c))))
    (down_pos d)
