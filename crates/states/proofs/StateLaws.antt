-- A state's bytes, written and read back. Assumes nothing.
use Prim.Native.Nat.{ℕ, zero, suc, ◌+◌, ◌*◌, ◌^◌, ◌≤◌, ◌<◌}
use native.Mathlib.Omega.{arith}
use mathlib.Core.Path.{◌≡◌, refl, sym, ap, ◌∙◌}
use mathlib.Core.Logic.{inl}
use mathlib.Core.List.{List, [], ◌∷◌, ◌++◌, append_assoc}
use lib.Dec.{T}
use lib.ListN.{length, get_or, take, drop, length-append, length-drop, get_or-append}
use lib.Seq.{sets, sets-eq, length-sets, length-take-le, ext_get_or, get_or-take, get_or-drop, get_or-append-add}
use lib.Ieee.{Float, binary32, fits, of_bits}
use Rattle.words.specs.Words.{word_bytes, float_bytes, word_from, float_from, floats_at}
use Rattle.words.proofs.Stores.{sets-append, sets-before, sets-past}
use Rattle.words.proofs.WordsLaws.{length-word_bytes, length-float_bytes, word_from-append, float_from-append, word_from-word_bytes, float_from-float_bytes, word_kept, word-own}
use Rattle.tables.specs.declared.Thresholds.{Thresholds}
use Rattle.tables.specs.Set.{set_of}
use Rattle.feed.specs.Feed.{opened, next}
use Rattle.states.specs.Bytes.{state_width, state_of, thresholds_bytes, numbers_bytes, opened_bytes}

-- ---- written part by part

-- two parts, one after the other
pub in_two : (l a b : List ℕ) (i j : ℕ) → i + length a ≡ j → sets (sets l i a) j b ≡ sets l i (a ++ b)
in_two l a b i j e = rw (← e) (sym (sets-append a b l i))

-- the thresholds
pub thresholds_parts : (l : List ℕ) (th : Thresholds)
    → sets (sets (sets (sets (sets l 528 (float_bytes th.peak)) 532 (float_bytes th.sigma)) 536 (float_bytes th.ratio)) 540 (float_bytes th.low)) 544 (float_bytes th.high) ≡ sets l 528 (thresholds_bytes th)
unfolding thresholds_bytes
thresholds_parts l th =
    rw (
      in_two _ (float_bytes th.low) (float_bytes th.high) 540 544 (omega (arith, length-float_bytes th.low)),
      in_two _ (float_bytes th.ratio) (float_bytes th.low ++ float_bytes th.high) 536 540 (omega (arith, length-float_bytes th.ratio)),
      in_two _ (float_bytes th.sigma) (float_bytes th.ratio ++ (float_bytes th.low ++ float_bytes th.high)) 532 536 (omega (arith, length-float_bytes th.sigma)),
      in_two l (float_bytes th.peak) (float_bytes th.sigma ++ (float_bytes th.ratio ++ (float_bytes th.low ++ float_bytes th.high))) 528 532 (omega (arith, length-float_bytes th.peak)),
    )

-- the numbers
pub numbers_parts : (l : List ℕ) (rows cols octave : ℕ) → sets (sets (sets (sets l 548 (word_bytes rows)) 552 (word_bytes cols)) 556 (word_bytes 0)) 560 (octave ∷ 0 ∷ 0 ∷ 0 ∷ []) ≡ sets l 548 (numbers_bytes rows cols octave)
unfolding numbers_bytes
numbers_parts l rows cols octave =
    rw (
      in_two _ (word_bytes 0) (octave ∷ 0 ∷ 0 ∷ 0 ∷ []) 556 560 (omega (arith, length-word_bytes 0)),
      in_two _ (word_bytes cols) (word_bytes 0 ++ (octave ∷ 0 ∷ 0 ∷ 0 ∷ [])) 552 556 (omega (arith, length-word_bytes cols)),
      in_two l (word_bytes rows) (word_bytes cols ++ (word_bytes 0 ++ (octave ∷ 0 ∷ 0 ∷ 0 ∷ []))) 548 552 (omega (arith, length-word_bytes rows)),
    )

length-thresholds : (th : Thresholds) → length (thresholds_bytes th) ≡ 20
unfolding thresholds_bytes float_bytes word_bytes
length-thresholds th = refl

length-numbers : (rows cols octave : ℕ) → length (numbers_bytes rows cols octave) ≡ 16
unfolding numbers_bytes word_bytes
length-numbers rows cols octave = refl

-- the three parts of a state
pub opened_parts : (l s : List ℕ) (th : Thresholds) (rows cols octave : ℕ) → length s ≡ 528
    → sets (sets (sets l 0 s) 528 (thresholds_bytes th)) 548 (numbers_bytes rows cols octave) ≡ sets l 0 (opened_bytes s th rows cols octave)
unfolding opened_bytes
opened_parts l s th rows cols octave e =
    rw (
      in_two (sets l 0 s) (thresholds_bytes th) (numbers_bytes rows cols octave) 528 548 (omega (arith, length-thresholds th)),
      in_two l s (thresholds_bytes th ++ numbers_bytes rows cols octave) 0 528 (omega arith),
    )

-- ---- the set

word_same : (b c : List ℕ) (i : ℕ) → ((k : ℕ) → k < 528 → get_or b k 0 ≡ get_or c k 0) → i + 4 ≤ 528 → float_from b i ≡ float_from c i
unfolding float_from word_from
word_same b c i h k = rw (h i (omega arith), h (i + 1) (omega arith), h (i + 2) (omega arith), h (i + 3) (omega arith))

floats_same : (n : ℕ) (b c : List ℕ) (i : ℕ) → ((k : ℕ) → k < 528 → get_or b k 0 ≡ get_or c k 0) → 4 * (i + n) ≤ 528 → floats_at n b i ≡ floats_at n c i
unfolding floats_at
floats_same zero b c i h k = refl
floats_same (suc n) b c i h k = rw (word_same b c (4 * i) h (omega arith), floats_same n b c (suc i) h (omega arith))

order_same : (b c : List ℕ) → 528 ≤ length b → 528 ≤ length c → ((k : ℕ) → k < 528 → get_or b k 0 ≡ get_or c k 0) → take 9 (drop 516 b) ≡ take 9 (drop 516 c)
order_same b c lb lc h =
    ext_get_or 0 (take 9 (drop 516 b)) (take 9 (drop 516 c)) (nine b lb ∙ sym (nine c lc))
    (λ i less. let inside : i < 9 = omega (arith, nine b lb) in at b i inside ∙ h (516 + i) (omega arith) ∙ sym (at c i inside))
  where
    nine : (l : List ℕ) → 528 ≤ length l → length (take 9 (drop 516 l)) ≡ 9
    nine l k = length-take-le 9 (drop 516 l) (omega (arith, length-drop 516 l))

    at : (l : List ℕ) (i : ℕ) → i < 9 → get_or (take 9 (drop 516 l)) i 0 ≡ get_or l (516 + i) 0
    at l i k = get_or-take 9 (drop 516 l) i 0 k ∙ get_or-drop 516 l i 0

-- a set is told by the first 528 bytes
pub set_same : (b c : List ℕ) → 528 ≤ length b → 528 ≤ length c → ((k : ℕ) → k < 528 → get_or b k 0 ≡ get_or c k 0) → set_of b ≡ set_of c
unfolding set_of
set_same b c lb lc h =
    rw (
      floats_same 4 b c 0 h (omega arith),
      floats_same 12 b c 4 h (omega arith),
      floats_same 12 b c 16 h (omega arith),
      floats_same 90 b c 28 h (omega arith),
      floats_same 11 b c 118 h (omega arith),
      order_same b c lb lc h,
    )

-- ---- read back

-- each threshold is a value of binary32
pub record Fits (th : Thresholds) : Type 0 where
  pub peak : T (fits binary32 th.peak)
  pub sigma : T (fits binary32 th.sigma)
  pub ratio : T (fits binary32 th.ratio)
  pub low : T (fits binary32 th.low)
  pub high : T (fits binary32 th.high)

-- a float, and a word, behind a front
float-behind : (front rest : List ℕ) (x : Float) (i : ℕ) → length front ≡ i → T (fits binary32 x) → float_from (front ++ (float_bytes x ++ rest)) i ≡ x
float-behind front rest x i e f =
    let n : i ≡ length front + 0 = omega arith in
    rw n (float_from-append front (float_bytes x ++ rest) 0 ∙ float_from-float_bytes x rest f)

word-behind : (front rest : List ℕ) (v i : ℕ) → length front ≡ i → v < 2 ^ 32 → word_from (front ++ (word_bytes v ++ rest)) i ≡ v
word-behind front rest v i e f =
    let n : i ≡ length front + 0 = omega arith in
    rw n (word_from-append front (word_bytes v ++ rest) 0 ∙ word_from-word_bytes v rest f)

module _ (th : Thresholds) (rows cols octave : ℕ) (rest : List ℕ) (f : Fits th) where
  abbrev Y : List ℕ
  Y = (thresholds_bytes th ++ numbers_bytes rows cols octave) ++ rest

  float_at : (x : Float) → T (fits binary32 x) → float_from (float_bytes x ++ []) 0 ≡ x
  float_at x h = float_from-float_bytes x [] h

  tail_peak : float_from Y 0 ≡ th.peak
  unfolding thresholds_bytes numbers_bytes float_from float_bytes word_from word_bytes
  tail_peak = float_at th.peak f.peak

  tail_sigma : float_from Y 4 ≡ th.sigma
  unfolding thresholds_bytes numbers_bytes float_from float_bytes word_from word_bytes
  tail_sigma = float_at th.sigma f.sigma

  tail_ratio : float_from Y 8 ≡ th.ratio
  unfolding thresholds_bytes numbers_bytes float_from float_bytes word_from word_bytes
  tail_ratio = float_at th.ratio f.ratio

  tail_low : float_from Y 12 ≡ th.low
  unfolding thresholds_bytes numbers_bytes float_from float_bytes word_from word_bytes
  tail_low = float_at th.low f.low

  tail_high : float_from Y 16 ≡ th.high
  unfolding thresholds_bytes numbers_bytes float_from float_bytes word_from word_bytes
  tail_high = float_at th.high f.high

  tail_rows : rows < 2 ^ 32 → word_from Y 20 ≡ rows
  unfolding thresholds_bytes numbers_bytes float_bytes word_from word_bytes
  tail_rows h = word_from-word_bytes rows [] h

  tail_cols : cols < 2 ^ 32 → word_from Y 24 ≡ cols
  unfolding thresholds_bytes numbers_bytes float_bytes word_from word_bytes
  tail_cols h = word_from-word_bytes cols [] h

  tail_position : word_from Y 28 ≡ 0
  unfolding thresholds_bytes numbers_bytes float_bytes word_from word_bytes
  tail_position = refl

  tail_octave : get_or Y 32 0 ≡ octave
  unfolding thresholds_bytes numbers_bytes float_bytes word_bytes
  tail_octave = refl

  -- behind a set record they make the state before the first column
  pub opened_back : (s : List ℕ) → length s ≡ 528 → rows < 2 ^ 32 → cols < 2 ^ 32 → state_of (s ++ Y) ≡ opened (set_of s) th rows cols octave
  unfolding state_of
  opened_back s long hr hc =
      let at : (k i : ℕ) → i ≡ 528 + k → float_from (s ++ Y) i ≡ float_from Y k = (λ k i e. rw (e, ← long) (float_from-append s Y k)) in
      let word : (k i : ℕ) → i ≡ 528 + k → word_from (s ++ Y) i ≡ word_from Y k = (λ k i e. rw (e, ← long) (word_from-append s Y k)) in
      let byte : get_or (s ++ Y) 560 0 ≡ get_or Y 32 0 = (let e : 560 ≡ length s + 32 = omega arith in rw e (get_or-append-add s Y 32 0)) in
      rw (
        set_same (s ++ Y) s (omega (arith, length-append s Y)) (omega arith) (λ k h. get_or-append s Y 0 k (omega arith)),
        at 0 528 refl ∙ tail_peak,
        at 4 532 refl ∙ tail_sigma,
        at 8 536 refl ∙ tail_ratio,
        at 12 540 refl ∙ tail_low,
        at 16 544 refl ∙ tail_high,
        word 20 548 refl ∙ tail_rows hr,
        word 24 552 refl ∙ tail_cols hc,
        word 28 556 refl ∙ tail_position,
        byte ∙ tail_octave,
      )

-- ---- one column more

module _ (b : List ℕ) (v : ℕ) (long : state_width ≤ length b) where
  abbrev moved : List ℕ
  moved = sets b 556 (word_bytes v)

  same : (k : ℕ) → k < 556 → get_or moved k 0 ≡ get_or b k 0
  same k h = sets-before (word_bytes v) b 556 k 0 h

  word-before : (i : ℕ) → i + 4 ≤ 556 → word_from moved i ≡ word_from b i
  word-before i h = word_kept (word_bytes v) b 556 i (inl h)

  float-before : (i : ℕ) → i + 4 ≤ 556 → float_from moved i ≡ float_from b i
  unfolding float_from
  float-before i h = ap (of_bits binary32) (word-before i h)

  -- where v is one more than its position, the state is the next
  pub moved-next : v ≡ word_from b 556 + 1 → v < 2 ^ 32 → state_of moved ≡ next (state_of b)
  unfolding state_of
  moved-next e h =
      let whole : length moved ≡ length b = length-sets b 556 (word_bytes v) in
      rw (
        set_same moved b (omega arith) (omega arith) (λ k less. same k (omega arith)),
        float-before 528 (omega arith),
        float-before 532 (omega arith),
        float-before 536 (omega arith),
        float-before 540 (omega arith),
        float-before 544 (omega arith),
        word-before 548 (omega arith),
        word-before 552 (omega arith),
        word-own v b 556 h (omega arith) ∙ e,
        sets-past (word_bytes v) b 556 560 0 (omega (arith, length-word_bytes v)),
      )

-- ---- in a buffer

-- what start writes is read back as the state before the first column
pub opened_read : (l s : List ℕ) (th : Thresholds) (rows cols octave : ℕ) → state_width ≤ length l → length s ≡ 528 → Fits th → rows < 2 ^ 32 → cols < 2 ^ 32
    → state_of (sets l 0 (opened_bytes s th rows cols octave)) ≡ opened (set_of s) th rows cols octave
unfolding opened_bytes
opened_read l s th rows cols octave long e f hr hc =
    let w : length (s ++ (thresholds_bytes th ++ numbers_bytes rows cols octave)) ≡ 564 = omega (arith, length-append s (thresholds_bytes th ++ numbers_bytes rows cols octave), length-append (thresholds_bytes th) (numbers_bytes rows cols octave), length-thresholds th, length-numbers rows cols octave) in
    rw (sets-eq (s ++ (thresholds_bytes th ++ numbers_bytes rows cols octave)) l 0 (omega arith), append_assoc s) (opened_back th rows cols octave _ f s e hr hc)
