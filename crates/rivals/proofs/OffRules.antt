-- What the lists rule out lists nothing. Assumes nothing.
use Rattle.std.specs.Prelude.{Option, Some, None}
use Prim.Native.Nat.{ℕ, zero, suc, ◌+◌, ◌/◌, ◌%◌, ◌<◌}
use native.Mathlib.Omega.{arith}
use mathlib.Core.Path.{◌≡◌, refl, sym, ap, ◌∙◌, subst}
use mathlib.Core.Bool.{Bool, true, false, true≢false, false≢true, cond, not, ◌&&◌, ◌||◌}
use mathlib.Core.List.{List, []}
use lib.Dec.{T, eqb, leb}
use lib.ListN.{length, get_or}
use lib.Seq.{ext_get_or}
use borrow.Author.Tests.{le-leb, lt-leb}
use lib.Ieee.{Float, lt, le, is_nan}
use Rattle.float.specs.Num.{◌⊗◌, f0}
use Rattle.float.proofs.Bools.{both, neither}
use Rattle.float.proofs.Order.{below_number}
use Rattle.float.proofs.Denied.{le-number}
use Rattle.tables.specs.declared.Set.{Set}
use Rattle.tables.specs.declared.Thresholds.{Thresholds}
use Rattle.fit.specs.Cubic.{◌at◌, coeffs_of, horner_of}
use Rattle.fit.specs.Band.{sign_of, stationary_of, band_of}
use Rattle.fit.specs.Owned.{owned_by}
use Rattle.fit.specs.declared.Band.{Band}
use Rattle.refine.specs.Refine.{refine_of}
use Rattle.pixel.specs.Verdict.{verdict_of}
use Rattle.pixel.specs.Rules.{cubics_at, own_samples, own_cubic}
use Rattle.pixel.specs.declared.Frame.{Frame}
use Rattle.pixel.proofs.RuleOut.{wild, own-cubic, point-rules, low-rules, high-rules, refusal-rules}
use Rattle.columns.specs.Stat.{point_of, height_of, cubic_in}
use Rattle.columns.specs.Gate.{pass_of, word_of}
use Rattle.columns.specs.declared.Window.{Window}
use Rattle.columns.proofs.CoefLaws.{coefficient_fits}
use Rattle.columns.proofs.StatLaws.{told-point}
use Rattle.columns.proofs.WordLaws.{low-on, high-on, open_off}
use Rattle.rivals.specs.Window.{window_of}
use Rattle.rivals.specs.Near.{reaches, reaches_at, reached_of}
use Rattle.rivals.specs.Ends.{ends, ends_at, ended_of, nine_in, spot_of, accepted_of, survives_of}
use Rattle.rivals.specs.Off.{code_of, bit_of, Off, unmarked, reached, fallen}
use Rattle.rivals.specs.Ready.{Ready, ReadyAt, place_of, Around}
use Rattle.pixel.proofs.NineLaws.{length_cubics, cubics_place}
use Rattle.rivals.proofs.WordRules.{word-rules}
use Rattle.refine.specs.declared.Spot.{Spot}

-- ---- tests

or_right : (a b : Bool) → b ≡ true → (a || b) ≡ true
or_right true b h = refl
or_right false b h = h

passed-low : (g : Window) (p v : Float) → pass_of g p v ≡ true → le g.low p ≡ true
unfolding pass_of
passed-low g p v h = (both (le g.low p) _ (both (le g.low p && le p g.high) _ h).0).0

reaches-told : (b : Band) (val p v : Float) → reaches b val p v ≡ true → (lt b.low p ≡ true) × (lt p b.high ≡ true) × (le val v ≡ true)
unfolding reaches
reaches-told b val p v h =
    let t = both (lt b.low p && lt p b.high) _ h in
    let u = both (lt b.low p) _ t.0 in
    (u.0, u.1, t.1)

-- ---- what a pixel's place tells at a polarity

module _ {s : Set} {th : Thresholds} {l k : List Float} {p v q u : Float} {w : ℕ} (r : Ready s th l k p v q u w) where
  abbrev pub here : Bool → Float
  here is_max = cond is_max q p

  abbrev pub height : Bool → Float
  height is_max = cond is_max u v

  abbrev pub made : List Float
  made = coeffs_of s.scale l

  here-is : (is_max : Bool) → here is_max ≡ point_of (sign_of is_max) made r.root
  here-is true = r.high-point
  here-is false = r.low-point

  height-is : (is_max : Bool) → height is_max ≡ height_of (sign_of is_max) made r.root
  height-is true = r.high-height
  height-is false = r.low-height

  -- a point that is a number is the stationary point
  pub number-told : (is_max : Bool) → is_nan (here is_max) ≡ false → (stationary_of made is_max ≡ Some (here is_max)) × (height is_max ≡ sign_of is_max ⊗ horner_of made (here is_max))
  number-told is_max h =
      let t = told-point made is_max r.root (coefficient_fits s.scale l) r.known (ap is_nan (sym (here-is is_max)) ∙ h) in
      (t.0 ∙ ap Some (sym (here-is is_max)), height-is is_max ∙ t.1 ∙ ap (λ (x : Float). sign_of is_max ⊗ horner_of made x) (sym (here-is is_max)))

  -- a word with the polarity's bit says that the point passed
  pub bit_told : (is_max : Bool) → bit_of w is_max ≡ 1 → (owned_by l is_max ≡ true) × (pass_of (window_of th) (here is_max) (height is_max) ≡ true)
  bit_told true h = both (owned_by l true) _ (high-on (window_of th) l p v q u r.root (ap (λ (x : ℕ). x / 2 % 2) (sym r.word) ∙ h))
  bit_told false h = both (owned_by l false) _ (low-on (window_of th) l p v q u r.root (ap (λ (x : ℕ). x % 2) (sym r.word) ∙ h))

  -- where the word is below 4 too, the window holds no 0, and the point is the stationary point
  pub own-told : (is_max : Bool) → w < 4 → bit_of w is_max ≡ 1 → (wild th ≡ false) × (is_nan (here is_max) ≡ false)
  own-told is_max small h =
      let t = bit_told is_max h in
      let shut = second (owned_by l false || owned_by l true) _ (open_off (window_of th) l p v q u r.root (subst (λ (x : ℕ). x < 4) r.word small)) (either is_max t.0) in
      ((neither (lt r.root f0) (wild th) shut).1, le-number th.low (here is_max) (subst T (sym (passed-low (window_of th) (here is_max) (height is_max) t.1)) tt))
    where
      second : (a b : Bool) → (a && b) ≡ false → a ≡ true → b ≡ false
      second true b e f = e
      second false b e f = absurd (false≢true f)

      either : (is_max : Bool) → owned_by l is_max ≡ true → (owned_by l false || owned_by l true) ≡ true
      either true e = or_right (owned_by l false) (owned_by l true) e
      either false e = rw e

-- ---- codes and places

code_index : (t : Bool) (m i r : ℕ) → m + code_of i t + r ≡ cond t (780 + (m + i + r)) (m + i + r)
code_index true m i r = omega arith
code_index false m i r = refl

code_start : (t : Bool) (m i : ℕ) → m + code_of i t ≡ cond t (780 + (m + i + 0)) (m + i + 0)
code_start true m i = omega arith
code_start false m i = omega arith

pub code_row : (t : Bool) (i : ℕ) → i < 254 → code_of i t % 780 ≡ i
code_row true i h = omega arith
code_row false i h = omega arith

pub code_high : (t : Bool) (i : ℕ) → i < 254 → leb 780 (code_of i t) ≡ t
code_high true i h = le-leb 780 (780 + i) (omega arith)
code_high false i h = lt-leb 780 i (omega arith)

picked : (l : List Float) (t : Bool) (n m : ℕ) → l at (cond t n m) ≡ cond t (l at n) (l at m)
picked l true n m = refl
picked l false n m = refl

-- one of eight tests
one_of : {P : Type 0} (a b c d e f g h : Bool) → (((a || b || c) || (d || e) || (f || g || h)) ≡ true) →
    (a ≡ true → P) → (b ≡ true → P) → (c ≡ true → P) → (d ≡ true → P) → (e ≡ true → P) → (f ≡ true → P) → (g ≡ true → P) → (h ≡ true → P) → P
one_of true b c d e f g h k pa pb pc pd pe pf pg ph = pa refl
one_of false true c d e f g h k pa pb pc pd pe pf pg ph = pb refl
one_of false false true d e f g h k pa pb pc pd pe pf pg ph = pc refl
one_of false false false true e f g h k pa pb pc pd pe pf pg ph = pd refl
one_of false false false false true f g h k pa pb pc pd pe pf pg ph = pe refl
one_of false false false false false true g h k pa pb pc pd pe pf pg ph = pf refl
one_of false false false false false false true h k pa pb pc pd pe pf pg ph = pg refl
one_of false false false false false false false h k pa pb pc pd pe pf pg ph = ph k

pub either_of : {P : Type 0} (a b : Bool) → (a || b) ≡ true → (a ≡ true → P) → (b ≡ true → P) → P
either_of true b k pa pb = pa refl
either_of false b k pa pb = pb k

-- the nine cubics, place by place
nine_in_lem : (x y z i : ℕ) (a b c d : List Float) (j : ℕ) → j < 9 → get_or (nine_in x y z i a b c d) j [] ≡ cubic_in a b c d (place_of x y z i j)
unfolding nine_in
nine_in_lem x y z i a b c d zero h = ap (cubic_in a b c d) (omega arith)
nine_in_lem x y z i a b c d (suc zero) h = ap (cubic_in a b c d) (omega arith)
nine_in_lem x y z i a b c d (suc (suc zero)) h = ap (cubic_in a b c d) (omega arith)
nine_in_lem x y z i a b c d (suc (suc (suc zero))) h = refl
nine_in_lem x y z i a b c d (suc (suc (suc (suc zero)))) h = refl
nine_in_lem x y z i a b c d (suc (suc (suc (suc (suc zero))))) h = refl
nine_in_lem x y z i a b c d (suc (suc (suc (suc (suc (suc zero)))))) h = refl
nine_in_lem x y z i a b c d (suc (suc (suc (suc (suc (suc (suc zero))))))) h = refl
nine_in_lem x y z i a b c d (suc (suc (suc (suc (suc (suc (suc (suc zero)))))))) h = refl
nine_in_lem x y z i a b c d (suc (suc (suc (suc (suc (suc (suc (suc (suc j))))))))) h = let n : ⊥ = omega arith in absurd n

nine_in_long : (x y z i : ℕ) (a b c d : List Float) → length (nine_in x y z i a b c d) ≡ 9
unfolding nine_in
nine_in_long x y z i a b c d = refl

not-accepted : (r : Option Spot) → accepted_of r ≡ false → r ≡ None
unfolding accepted_of
not-accepted (Some spot) h = absurd (true≢false h)
not-accepted None h = refl

-- the nine cubics are those of nine samples, if each of them is
pub cubics_in : (s : Set) (nine : List (List Float)) (x y z i : ℕ) (a b c d : List Float) → length nine ≡ 9
    → ((j : ℕ) → j < 9 → cubic_in a b c d (place_of x y z i j) ≡ coeffs_of s.scale (get_or nine j [])) → nine_in x y z i a b c d ≡ cubics_at s nine
cubics_in s nine x y z i a b c d long each =
    ext_get_or [] (nine_in x y z i a b c d) (cubics_at s nine) (nine_in_long x y z i a b c d ∙ sym (length_cubics s.scale nine ∙ long))
    (λ j h. let b9 : j < 9 = subst (λ (n : ℕ). j < n) (nine_in_long x y z i a b c d) h in
    nine_in_lem x y z i a b c d j b9 ∙ each j b9 ∙ sym (cubics_place s.scale nine j (subst (λ (n : ℕ). j < n) (sym long) b9)))

-- ---- a candidate that is ruled out, by what stands at its own place m

module _ (s : Set) (th : Thresholds) (f : Frame) (nine : List (List Float)) (row col m : ℕ) (a b c d p v : List Float) (w : List ℕ) (long : length nine ≡ 9) (own : ReadyAt s th (own_samples nine) a b c d p v w m) where
  enough : (j : ℕ) → j < 9 → j < length nine
  enough j h = subst (λ (n : ℕ). j < n) (sym long) h

  -- a word below 4 without the polarity's bit
  pub unmarked-rules : (is_max : Bool) → get_or w m 0 < 4 → bit_of (get_or w m 0) is_max ≡ 0 → verdict_of s th f nine row col is_max ≡ None
  unmarked-rules is_max small h = word-rules s th f nine row col is_max own.root own.known (subst (λ (n : ℕ). n < 4) word small) (subst (λ (n : ℕ). bit_of n is_max ≡ 0) word h)
    where
      word : get_or w m 0 ≡ word_of (window_of th) (own_samples nine) (point_of (sign_of false) (made own) own.root) (height_of (sign_of false) (made own) own.root) (point_of (sign_of true) (made own) own.root) (height_of (sign_of true) (made own) own.root) own.root
      word = own.word ∙ rw (own.low-point, own.low-height, own.high-point, own.high-height)

  -- ---- with it, and a rival; the polarity's point stands at place e
  module _ (is_max : Bool) (small : get_or w m 0 < 4) (set : bit_of (get_or w m 0) is_max ≡ 1) (e : ℕ) (place : e ≡ cond is_max (780 + m) m) where
    abbrev point : Float
    point = here own is_max

    own-point : p at e ≡ point
    own-point = ap (λ (n : ℕ). p at n) place ∙ picked p is_max (780 + m) m

    own-height : v at e ≡ height own is_max
    own-height = ap (λ (n : ℕ). v at n) place ∙ picked v is_max (780 + m) m

    tame : wild th ≡ false
    tame = (own-told own is_max small set).0

    same-cubic : own_cubic s nine ≡ made own
    same-cubic = own-cubic s nine (enough 4 (omega arith))

    stationary : stationary_of (own_cubic s nine) is_max ≡ Some point
    stationary = ap (λ (k : List Float). stationary_of k is_max) same-cubic ∙ (number-told own is_max (own-told own is_max small set).1).0

    value : height own is_max ≡ sign_of is_max ⊗ horner_of (own_cubic s nine) point
    value = (number-told own is_max (own-told own is_max small set).1).1 ∙ ap (λ (k : List Float). sign_of is_max ⊗ horner_of k point) (sym same-cubic)

    -- the point of the j-th of the nine, which stands at place q
    pub rule_point : (j q idx : ℕ) → j < 9 → eqb j 4 ≡ false → ReadyAt s th (get_or nine j []) a b c d p v w q → idx ≡ cond is_max (780 + q) q →
        reaches_at (band_of s.sigmas (p at e)) (v at e) p v idx ≡ true → verdict_of s th f nine row col is_max ≡ None
    rule_point j q idx h other r is reaching =
        let t = reaches-told _ _ _ _ (sym same ∙ reaching) in
        let n = number-told r is_max (below_number _ _ (subst T (sym t.0) tt)).1 in
        point-rules s th f nine row col is_max tame point stationary j h (enough j h) other (here r is_max) n.0 t.0 t.1
        (subst T (sym (sym (ap (λ (k : Float). le k (height r is_max)) value ∙ ap (λ (k : Float). le (sign_of is_max ⊗ horner_of (own_cubic s nine) point) k) n.1) ∙ t.2)) tt)
      where
        same : reaches_at (band_of s.sigmas (p at e)) (v at e) p v idx ≡ reaches (band_of s.sigmas point) (height own is_max) (here r is_max) (height r is_max)
        same = rw (own-point, own-height, is, picked p is_max (780 + q) q, picked v is_max (780 + q) q)

    -- its cubic k, at an end of the band
    pub rule_end : (j : ℕ) (k : List Float) → j < 9 → eqb j 4 ≡ false → k ≡ coeffs_of s.scale (get_or nine j []) → ends k (sign_of is_max) (v at e) (band_of s.sigmas (p at e)) ≡ true → verdict_of s th f nine row col is_max ≡ None
    unfolding ends
    rule_end j k h other cubic reaching =
        either_of _ _ (rw (own-point, own-height) at reaching)
        (λ t. low-rules s th f nine row col is_max tame point stationary j h (enough j h) other (reach (band_of s.sigmas point).low t))
        (λ t. high-rules s th f nine row col is_max tame point stationary j h (enough j h) other (reach (band_of s.sigmas point).high t))
      where
        reach : (q : Float) → le (height own is_max) (sign_of is_max ⊗ horner_of k q) ≡ true → T (le (sign_of is_max ⊗ horner_of (own_cubic s nine) point) (sign_of is_max ⊗ horner_of (coeffs_of s.scale (get_or nine j [])) q))
        reach q t = subst T (sym (sym (ap (λ (x : Float). le x (sign_of is_max ⊗ horner_of k q)) value
            ∙ ap (λ (x : List Float). le (sign_of is_max ⊗ horner_of (own_cubic s nine) point) (sign_of is_max ⊗ horner_of x q)) cubic) ∙ t)) tt

    -- the refinement, by the nine cubics k
    pub rule_refused : (k : List (List Float)) → k ≡ cubics_at s nine → accepted_of (refine_of s th.ratio k (spot_of (p at e) is_max)) ≡ false → verdict_of s th f nine row col is_max ≡ None
    rule_refused k cubics refused =
        refusal-rules s th f nine row col is_max tame point stationary (spot_of point is_max) refl refl
        (ap (λ (x : List (List Float)). refine_of s th.ratio x (spot_of point is_max)) (sym cubics) ∙ not-accepted _ (subst (λ (x : Float). accepted_of (refine_of s th.ratio k (spot_of x is_max)) ≡ false) own-point refused))

-- ---- by the lines of the three columns

module _ (s : Set) (th : Thresholds) (f : Frame) (nine : List (List Float)) (row col : ℕ) (x y z i : ℕ) (a b c d p v : List Float) (w : List ℕ) (around : Around s th nine x y z i a b c d p v w) where
  abbrev own : ReadyAt s th (own_samples nine) a b c d p v w (y + i + 1)
  own = around.places 4 (omega arith)

  module _ (is_max : Bool) (small : get_or w (y + i + 1) 0 < 4) (set : bit_of (get_or w (y + i + 1) 0) is_max ≡ 1) where
    reach_at : (j idx : ℕ) → j < 9 → eqb j 4 ≡ false → idx ≡ cond is_max (780 + place_of x y z i j) (place_of x y z i j) →
        reaches_at (band_of s.sigmas (p at (y + code_of i is_max + 1))) (v at (y + code_of i is_max + 1)) p v idx ≡ true → verdict_of s th f nine row col is_max ≡ None
    reach_at j idx h other = rule_point s th f nine row col (y + i + 1) a b c d p v w around.long own is_max small set (y + code_of i is_max + 1) (code_index is_max y i 1) j (place_of x y z i j) idx h other (around.places j h)

    end_at : (j q : ℕ) → j < 9 → eqb j 4 ≡ false → q ≡ place_of x y z i j →
        ends_at a b c d (sign_of is_max) (v at (y + code_of i is_max + 1)) (band_of s.sigmas (p at (y + code_of i is_max + 1))) q ≡ true → verdict_of s th f nine row col is_max ≡ None
    end_at j q h other is =
        rule_end s th f nine row col (y + i + 1) a b c d p v w around.long own is_max small set (y + code_of i is_max + 1) (code_index is_max y i 1) j (cubic_in a b c d q) h other (ap (cubic_in a b c d) is ∙ (around.places j h).cubic)

    reached-rules : reached_of s.sigmas x y z (code_of i is_max) p v ≡ true → verdict_of s th f nine row col is_max ≡ None
    unfolding reached_of
    reached-rules t =
        one_of _ _ _ _ _ _ _ _ t
        (reach_at 0 (x + code_of i is_max) (omega arith) refl (code_start is_max x i))
        (reach_at 3 (x + code_of i is_max + 1) (omega arith) refl (code_index is_max x i 1))
        (reach_at 6 (x + code_of i is_max + 2) (omega arith) refl (code_index is_max x i 2))
        (reach_at 1 (y + code_of i is_max) (omega arith) refl (code_start is_max y i))
        (reach_at 7 (y + code_of i is_max + 2) (omega arith) refl (code_index is_max y i 2))
        (reach_at 2 (z + code_of i is_max) (omega arith) refl (code_start is_max z i))
        (reach_at 5 (z + code_of i is_max + 1) (omega arith) refl (code_index is_max z i 1))
        (reach_at 8 (z + code_of i is_max + 2) (omega arith) refl (code_index is_max z i 2))

    ended_rules : ended_of x y z i a b c d (sign_of is_max) (v at (y + code_of i is_max + 1)) (band_of s.sigmas (p at (y + code_of i is_max + 1))) ≡ true → verdict_of s th f nine row col is_max ≡ None
    unfolding ended_of
    ended_rules t =
        one_of _ _ _ _ _ _ _ _ t
        (end_at 0 (x + i) (omega arith) refl (omega arith))
        (end_at 3 (x + i + 1) (omega arith) refl refl)
        (end_at 6 (x + i + 2) (omega arith) refl refl)
        (end_at 1 (y + i) (omega arith) refl (omega arith))
        (end_at 7 (y + i + 2) (omega arith) refl refl)
        (end_at 2 (z + i) (omega arith) refl (omega arith))
        (end_at 5 (z + i + 1) (omega arith) refl refl)
        (end_at 8 (z + i + 2) (omega arith) refl refl)

    fallen-rules : i < 254 → survives_of s th.ratio x y z (code_of i is_max) a b c d p v ≡ false → verdict_of s th f nine row col is_max ≡ None
    unfolding survives_of
    fallen-rules short t = go (ended_of x y z i a b c d (sign_of is_max) val (band_of s.sigmas sigma)) refl (rw (code_row is_max i short, code_high is_max i short) at t)
      where
        sigma : Float
        sigma = p at (y + code_of i is_max + 1)

        val : Float
        val = v at (y + code_of i is_max + 1)

        go : (e : Bool) → ended_of x y z i a b c d (sign_of is_max) val (band_of s.sigmas sigma) ≡ e →
            (not e && accepted_of (refine_of s th.ratio (nine_in x y z i a b c d) (spot_of sigma is_max))) ≡ false → verdict_of s th f nine row col is_max ≡ None
        go true e k = ended_rules e
        go false e k =
            rule_refused s th f nine row col (y + i + 1) a b c d p v w around.long own is_max small set (y + code_of i is_max + 1) (code_index is_max y i 1) (nine_in x y z i a b c d)
            (cubics_in s nine x y z i a b c d around.long (λ j h. (around.places j h).cubic)) k

  -- ---- what the lists rule out lists nothing
  pub off-rules : (is_max : Bool) → i < 254 → get_or w (y + i + 1) 0 < 4 → Off s th.ratio x y z a b c d p v w i is_max → verdict_of s th f nine row col is_max ≡ None
  off-rules is_max short small (unmarked h) = unmarked-rules s th f nine row col (y + i + 1) a b c d p v w around.long own is_max small h
  off-rules is_max short small (reached h t) = reached-rules is_max small h t
  off-rules is_max short small (fallen h t) = fallen-rules is_max small h short t
