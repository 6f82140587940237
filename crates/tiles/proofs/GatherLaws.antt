-- Lists gathered one after the other: in parts, in two loops, and with the loops exchanged. Assumes nothing.
use Prim.Native.Nat.{ℕ, zero, suc, ◌+◌, ◌-◌, ◌*◌, ◌/◌, ◌%◌, ◌<◌}
use native.Mathlib.Omega.{arith}
use native.Mathlib.Nat.{add-zero, add-suc}
use mathlib.Core.Path.{◌≡◌, refl, sym, ap, ◌∙◌, subst}
use mathlib.Core.List.Permᴰ
use mathlib.Core.List.{List, [], ◌++◌, map, append_assoc, append-nil, map-append, Permᴰ}
use lib.Arith.{digits_div, digits_mod}
use Rattle.tiles.specs.Tiles.{tiles_of, start_of, length_of}
use Rattle.tiles.specs.Copy.{gather}
use Rattle.tiles.proofs.TilesLaws.{followed_whole, last_ends, later_long}

pub gather-same : {A : Type 0} (f g : ℕ → List A) (n : ℕ) → ((k : ℕ) → k < n → f k ≡ g k) → gather f n ≡ gather g n
unfolding gather
gather-same f g zero e = refl
gather-same f g (suc n) e = rw (gather-same f g n (λ k h. e k (omega arith)), e n (omega arith))

pub gather-map : {A B : Type 0} (t : A → B) (f : ℕ → List A) (n : ℕ) → map t (gather f n) ≡ gather (λ k. map t (f k)) n
unfolding gather
gather-map t f zero = refl
gather-map t f (suc n) = map-append t (gather f n) (f n) ∙ ap (λ l. l ++ map t (f n)) (gather-map t f n)

-- the first a, then the b after them
pub gather-add : {A : Type 0} (f : ℕ → List A) (a b : ℕ) → gather f (a + b) ≡ gather f a ++ gather (λ k. f (a + k)) b
unfolding gather
gather-add f a zero = let e : a + zero ≡ a = add-zero a in rw e (sym (append-nil (gather f a)))
gather-add f a (suc b) = let e : a + suc b ≡ suc (a + b) = add-suc a b in rw (e, gather-add f a b, append_assoc)

-- one loop over r * c is two loops
pub gather_two : {A : Type 0} (f : ℕ → ℕ → List A) (c r : ℕ) → gather (λ n. f (n / c) (n % c)) (r * c) ≡ gather (λ i. gather (f i) c) r
unfolding gather
gather_two f c zero = let e : zero * c ≡ 0 = omega arith in rw e
gather_two f c (suc r) =
    let e : suc r * c ≡ r * c + c = omega arith in
    rw (e, gather-add (λ n. f (n / c) (n % c)) (r * c) c, gather_two f c r)
    (ap (λ l. gather (λ i. gather (f i) c) r ++ l) (gather-same (λ k. f ((r * c + k) / c) ((r * c + k) % c)) (f r) c (λ k h. rw (digits_div r h, digits_mod r h))))

-- ---- along a side: the judged pixels one after the other are those of the tiles

module _ (step : ℕ) (advances : 0 < step) (side : ℕ) {A : Type 0} (f : ℕ → List A) where
  abbrev in_tile : ℕ → List A
  in_tile k = gather (λ i. f (start_of step k + i)) (length_of step side k - 8)

  whole-tiles : (n : ℕ) → n < tiles_of step side → gather in_tile n ≡ gather f (n * step)
  unfolding gather
  whole-tiles zero h = let e : zero * step ≡ 0 = omega arith in rw e
  whole-tiles (suc n) h =
      let e : suc n * step ≡ n * step + step = omega arith in
      let w : length_of step side n - 8 ≡ step = rw (followed_whole step advances side n h) (omega arith) in
      rw (e, gather-add f (n * step) step, whole-tiles n (omega arith), w)

  last_part : (k : ℕ) → suc k ≡ tiles_of step side → start_of step k + (length_of step side k - 8) ≡ side - 8
  last_part zero h = let e = last_ends step advances side zero h in omega arith
  last_part (suc k) h =
      let e = last_ends step advances side (suc k) h in
      let l = later_long step advances side (suc k) (omega arith) (omega arith) in
      omega arith

  by_last : (k : ℕ) → suc k ≡ tiles_of step side → gather in_tile (suc k) ≡ gather f (side - 8)
  unfolding gather
  by_last k h =
      rw (whole-tiles k (omega arith)) (sym (gather-add f (start_of step k) (length_of step side k - 8)) ∙ ap (gather f) (last_part k h))

  pub side_tiles : gather in_tile (tiles_of step side) ≡ gather f (side - 8)
  unfolding tiles_of
  side_tiles = by_last ((side - 9) / step) refl

-- ---- two loops exchanged

-- a ++ b ++ c ++ d, the middle two exchanged
middle_swap : {A : Type 0} (a b c d : List A) → Permᴰ ((a ++ b) ++ (c ++ d)) ((a ++ c) ++ (b ++ d))
middle_swap a b c d =
    subst (λ l. Permᴰ l ((a ++ c) ++ (b ++ d))) (append_assoc a (b ++ c) d ∙ ap (λ l. a ++ l) (append_assoc b c d) ∙ sym (append_assoc a b (c ++ d)))
    (subst (λ l. Permᴰ ((a ++ (b ++ c)) ++ d) l) (append_assoc a (c ++ b) d ∙ ap (λ l. a ++ l) (append_assoc c b d) ∙ sym (append_assoc a c (b ++ d)))
    (Permᴰ.append_right d (Permᴰ.append_left a (Permᴰ.append_comm b c))))

pub gather_perm : {A : Type 0} (f g : ℕ → List A) (n : ℕ) → ((k : ℕ) → k < n → Permᴰ (f k) (g k)) → Permᴰ (gather f n) (gather g n)
unfolding gather
gather_perm f g zero e = Permᴰ.nil
gather_perm f g (suc n) e =
    Permᴰ.trans (Permᴰ.append_right (f n) (gather_perm f g n (λ k h. e k (omega arith)))) (Permᴰ.append_left (gather g n) (e n (omega arith)))

-- what two loops gather of f and of g at once
gather_both : {A : Type 0} (f g : ℕ → List A) (n : ℕ) → Permᴰ (gather f n ++ gather g n) (gather (λ k. f k ++ g k) n)
unfolding gather
gather_both f g zero = Permᴰ.nil
gather_both f g (suc n) = Permᴰ.trans (middle_swap (gather f n) (f n) (gather g n) (g n)) (Permᴰ.append_right (f n ++ g n) (gather_both f g n))

nothing_gathered : {A : Type 0} (n : ℕ) → gather {A = A} (λ k. []) n ≡ []
unfolding gather
nothing_gathered zero = refl
nothing_gathered {A} (suc n) = rw (nothing_gathered {A = A} n)

-- the inner loop outside
pub gather_swap : {A : Type 0} (f : ℕ → ℕ → List A) (n m : ℕ) → Permᴰ (gather (λ i. gather (λ j. f i j) m) n) (gather (λ j. gather (λ i. f i j) n) m)
unfolding gather
gather_swap {A} f zero m = subst (λ l. Permᴰ [] l) (sym (nothing_gathered {A = A} m)) Permᴰ.nil
gather_swap f (suc n) m =
    Permᴰ.trans (Permᴰ.append_right (gather (λ j. f n j) m) (gather_swap f n m)) (gather_both (λ j. gather (λ i. f i j) n) (λ j. f n j) m)
