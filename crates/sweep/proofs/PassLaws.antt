-- One column more: what the lists rule out lists nothing, and the two columns before the next one stand in their slots. Assumes nothing.
use Rattle.std.specs.Prelude.{None}
use Prim.Native.Nat.{ℕ, zero, suc, min, ◌+◌, ◌-◌, ◌*◌, ◌/◌, ◌%◌, ◌≤◌, ◌<◌}
use native.Mathlib.Nat.{eq-or-lt_of_le}
use native.Mathlib.Omega.{arith}
use mathlib.Core.Path.{◌≡◌, sym, ◌∙◌, subst}
use mathlib.Core.Bool.{Bool, true, false, cond, not}
use mathlib.Core.Logic.{◌⊎◌, inl, inr}
use mathlib.Core.List.{List}
use lib.Dec.{T, eqb, ltb, ltb→lt, nltb→le}
use lib.ListN.{length, get_or}
use lib.Ieee.{Float}
use Rattle.tables.specs.declared.Set.{Set}
use Rattle.samples.specs.Level.{Maps, samples_at, nine_at}
use Rattle.samples.proofs.LevelLaws.{length_nine, nine_place}
use Rattle.rivals.specs.Off.{Thin}
use Rattle.rivals.specs.Ready.{ReadyAt, place_of, Around}
use Rattle.rivals.proofs.OffRules.{off-rules}
use Rattle.marks.specs.Marks.{mark_at, Put}
use Rattle.slots.specs.Column.{Rings, Filled}
use Rattle.sweep.specs.Ruled.{verdict_at, Ruled, height_of, Block, Lines, slot_of, Before, Passed}

-- ---- the marks of a column

pub passed-by : (s : Set) (ratio : Float) (n x y z : ℕ) (a b c d p v : List Float) (w keep : List ℕ) (col : ℕ) (marks marks' : List ℕ) → n ≤ 254 →
    Thin s ratio n x y z a b c d p v w keep → Put keep col marks marks' → Passed s ratio n x y z a b c d p v w col marks marks'
passed-by s ratio n x y z a b c d p v w keep col marks marks' short thin put = record {
  sure = λ i h e. thin.sure i h (sym (put.here i (omega arith)) ∙ e);
  off = λ i h e. thin.off i h (sym (put.here i (omega arith)) ∙ e);
  same = put.same;
  long = put.long;
}

-- ---- slots

apart : (c d n : ℕ) → n ≤ 260 → (c % 3 ≡ d % 3 → ⊥) → (slot_of c + n ≤ slot_of d) ⊎ (slot_of d + n ≤ slot_of c)
apart c d n short other = go (ltb (c % 3) (d % 3)) (ltb→lt (c % 3) (d % 3)) (nltb→le (c % 3) (d % 3))
  where
    below : (a b n : ℕ) → n ≤ 260 → a < b → a * 260 + n ≤ b * 260
    below a b n h k = omega arith

    unlike : (a b : ℕ) → b ≤ a → (a ≡ b → ⊥) → b < a
    unlike a b h k = pick (eq-or-lt_of_le h)
      where
        pick : (b ≡ a) ⊎ (b < a) → b < a
        pick (inl e) = absurd (k (sym e))
        pick (inr l) = l

    go : (t : Bool) → (T t → c % 3 < d % 3) → (T (not t) → d % 3 ≤ c % 3) → (slot_of c + n ≤ slot_of d) ⊎ (slot_of d + n ≤ slot_of c)
    go true less over = inl (below (c % 3) (d % 3) n short (less tt))
    go false less over = inr (below (d % 3) (c % 3) n short (unlike (c % 3) (d % 3) (over tt) other))

-- ---- three columns that stand in slots

module _ (m : Maps) (j n col x y z : ℕ) (a b c d p v : List Float) (w : List ℕ)
    (before : Lines m j n (col - 1) x a b c d p v w) (own : Lines m j n col y a b c d p v w) (after : Lines m j n (col + 1) z a b c d p v w) where
  here : (slot c' : ℕ) → Lines m j n c' slot a b c d p v w → (i q : ℕ) → i < n → q < 3 → ReadyAt m.set m.thresholds (samples_at m (j + i + 4 + q - 1) c') a b c d p v w (slot + i + q)
  here slot c' l i q h k =
      let row : j + 3 + (i + q) ≡ j + i + 4 + q - 1 = omega arith in
      let place : slot + (i + q) ≡ slot + i + q = omega arith in
      subst (λ (u : ℕ). ReadyAt m.set m.thresholds (samples_at m (j + i + 4 + q - 1) c') a b c d p v w u) place
      (subst (λ (r : ℕ). ReadyAt m.set m.thresholds (samples_at m r c') a b c d p v w (slot + (i + q))) row (l (i + q) (omega arith)))

  -- they are around each pixel of the middle one
  pub around : 1 ≤ col → (i : ℕ) → i < n → Around m.set m.thresholds (nine_at m (j + i + 4) col) x y z i a b c d p v w
  around left i h = record {
    long = length_nine (samples_at m) (j + i + 4) col;
    places = λ k less.
        subst (λ (l : List Float). ReadyAt m.set m.thresholds l a b c d p v w (place_of x y z i k)) (sym (nine_place (samples_at m) (j + i + 4) col k less)) (by (k / 3) (k % 3) (omega arith) (omega arith));
  }
    where
      by : (q r : ℕ) → q < 3 → r < 3 → ReadyAt m.set m.thresholds (samples_at m (j + i + 4 + q - 1) (col + r - 1)) a b c d p v w (cond (eqb r 0) x (cond (eqb r 1) y z) + i + q)
      by q zero k l = let e : col - 1 ≡ col + 0 - 1 = omega arith in subst (λ (u : ℕ). ReadyAt m.set m.thresholds (samples_at m (j + i + 4 + q - 1) u) a b c d p v w (x + i + q)) e (here x (col - 1) before i q h k)
      by q (suc zero) k l = let e : col ≡ col + 1 - 1 = omega arith in subst (λ (u : ℕ). ReadyAt m.set m.thresholds (samples_at m (j + i + 4 + q - 1) u) a b c d p v w (y + i + q)) e (here y col own i q h k)
      by q (suc (suc zero)) k l = let e : col + 1 ≡ col + 2 - 1 = omega arith in subst (λ (u : ℕ). ReadyAt m.set m.thresholds (samples_at m (j + i + 4 + q - 1) u) a b c d p v w (z + i + q)) e (here z (col + 1) after i q h k)
      by q (suc (suc (suc r))) k l = let o : ⊥ = omega arith in absurd o

  -- what the lists rule out of the middle one lists nothing
  pub column_ruled : 1 ≤ col → n ≤ 254 → (marks marks' : List ℕ) → Passed m.set m.thresholds.ratio n x y z a b c d p v w col marks marks' → (i : ℕ) → i < n → mark_at marks' i col ≡ 0 → (is_max : Bool) → verdict_at m (j + i + 4) col is_max ≡ None
  column_ruled left short marks marks' passed i h e is_max =
      off-rules m.set m.thresholds m.frame (nine_at m (j + i + 4) col) (j + i + 4) col x y z i a b c d p v w (around left i h) is_max (omega arith) (passed.sure i h e) (passed.off i h e is_max)

-- ---- the next column

module _ (m : Maps) (j n col before any : ℕ) (a b c d p v : List Float) (w : List ℕ) (a' b' c' d' p' v' : List Float) (w' marks : List ℕ) (short : n ≤ 254) (low : 3 ≤ col)
    (was : Before m j n col before a b c d p v w marks)
    (filled : Filled m.set m.thresholds (λ i. samples_at m (j + 3 + i) col) (slot_of col) (n + 2) a b c d p v w a' b' c' d' p' v' w' any) where
  same-slot : slot_of col ≡ slot_of (col + 1 + 2)
  same-slot = omega arith

  own_lines : Lines m j n col (slot_of col) a' b' c' d' p' v' w'
  own_lines = filled.slot

  near-kept : 4 ≤ col → Lines m j n (col - 1) (slot_of (col + 2)) a' b' c' d' p' v' w'
  near-kept h = filled.kept (λ i. samples_at m (j + 3 + i) (col - 1)) (slot_of (col + 2)) (n + 2) (omega arith) (apart (col + 2) col (n + 2) (omega arith) (other col)) (was.near h)
    where
      other : (c : ℕ) → (c + 2) % 3 ≡ c % 3 → ⊥
      other c e = omega arith

  far-kept : 5 ≤ col → Lines m j n (col - 2) (slot_of (col + 1)) a' b' c' d' p' v' w'
  far-kept h = filled.kept (λ i. samples_at m (j + 3 + i) (col - 2)) (slot_of (col + 1)) (n + 2) (omega arith) (apart (col + 1) col (n + 2) (omega arith) (other col)) (was.far h)
    where
      other : (c : ℕ) → (c + 1) % 3 ≡ c % 3 → ⊥
      other c e = omega arith

  -- no word of the column before it exceeds the number that was answered for it
  pub under-kept : 4 ≤ col → (i : ℕ) → i < n → get_or w' (slot_of (col + 2) + i + 1) 0 ≤ before
  under-kept h i less =
      let e : slot_of (col + 2) + i + 1 ≡ slot_of (col + 2) + (i + 1) = omega arith in
      subst (λ (u : ℕ). get_or w' u 0 ≤ before) (sym e) (subst (λ (u : ℕ). u ≤ before) (sym (filled.same (slot_of (col + 2) + (i + 1)) (off (apart (col + 2) col (n + 2) (omega arith) (other col))))) (was.under h (i + 1) (omega arith)))
    where
      other : (c : ℕ) → (c + 2) % 3 ≡ c % 3 → ⊥
      other c e = omega arith

      off : (slot_of (col + 2) + (n + 2) ≤ slot_of col) ⊎ (slot_of col + (n + 2) ≤ slot_of (col + 2)) → (slot_of (col + 2) + (i + 1) < slot_of col) ⊎ (slot_of col + (n + 2) ≤ slot_of (col + 2) + (i + 1))
      off (inl k) = inl (omega arith)
      off (inr k) = inr (omega arith)

  moved : (marks' : List ℕ) → length marks' ≡ 131072 → Ruled m j n (col + 1 - 1) marks' → Before m j n (col + 1) any a' b' c' d' p' v' w' marks'
  moved marks' long ruled = record {
    rings = filled.rings;
    long = long;
    near = λ h. let e : col ≡ col + 1 - 1 = omega arith in subst (λ (u : ℕ). Lines m j n u (slot_of (col + 1 + 2)) a' b' c' d' p' v' w') e (subst (λ (u : ℕ). Lines m j n col u a' b' c' d' p' v' w') same-slot own_lines);
    under = λ h i less. subst (λ (u : ℕ). get_or w' (u + i) 0 ≤ any) same-slot (filled.under i less);
    far = λ h.
        let e : col - 1 ≡ col + 1 - 2 = omega arith in
        let k : slot_of (col + 2) ≡ slot_of (col + 1 + 1) = omega arith in
        subst (λ (u : ℕ). Lines m j n u (slot_of (col + 1 + 1)) a' b' c' d' p' v' w') e (subst (λ (u : ℕ). Lines m j n (col - 1) u a' b' c' d' p' v' w') k (near-kept (omega arith)));
    ruled = ruled;
  }

  -- no column can be judged yet
  pub before-first : col < 5 → Before m j n (col + 1) any a' b' c' d' p' v' w' marks
  before-first early = moved marks was.long (λ i k h four less. let z : ⊥ = omega arith in absurd z)

  -- the column before it is judged
  pub before-next : (marks' : List ℕ) → 5 ≤ col → col < 4096 → Passed m.set m.thresholds.ratio n (slot_of (col + 1)) (slot_of (col + 2)) (slot_of col) a' b' c' d' p' v' w' (col - 1) marks marks' → Before m j n (col + 1) any a' b' c' d' p' v' w' marks'
  before-next marks' late inside passed = moved marks' passed.long ruled
    where
      minus : col - 2 ≡ col - 1 - 1
      minus = omega arith

      plus : col ≡ col - 1 + 1
      plus = omega arith

      last : (i : ℕ) → i < n → mark_at marks' i (col - 1) ≡ 0 → (is_max : Bool) → verdict_at m (j + i + 4) (col - 1) is_max ≡ None
      last =
          column_ruled m j n (col - 1) (slot_of (col + 1)) (slot_of (col + 2)) (slot_of col) a' b' c' d' p' v' w'
          (subst (λ (u : ℕ). Lines m j n u (slot_of (col + 1)) a' b' c' d' p' v' w') minus (far-kept late)) (near-kept (omega arith))
          (subst (λ (u : ℕ). Lines m j n u (slot_of col) a' b' c' d' p' v' w') plus own_lines) (omega arith) short marks marks' passed

      ruled : Ruled m j n (col + 1 - 1) marks'
      ruled i k h four less = go (eq-or-lt_of_le within)
        where
          within : k ≤ col - 1
          within = omega arith

          go : (k ≡ col - 1) ⊎ (k < col - 1) → mark_at marks' i k ≡ 0 → (is_max : Bool) → verdict_at m (j + i + 4) k is_max ≡ None
          go (inl e) mark is_max = subst (λ (u : ℕ). verdict_at m (j + i + 4) u is_max ≡ None) (sym e) (last i h (subst (λ (u : ℕ). mark_at marks' i u ≡ 0) e mark) is_max)
          go (inr l) mark is_max = was.ruled i k h four l (sym (passed.same i k (omega arith) (omega arith) (λ e. let o : ⊥ = omega arith in absurd o)) ∙ mark) is_max

-- ---- the first column, and after the last one

pub before-none : {a b c d p v : List Float} {w marks : List ℕ} (m : Maps) (j n before : ℕ) → Rings a b c d p v w → length marks ≡ 131072 → Before m j n 3 before a b c d p v w marks
before-none m j n before rings long = record {
  rings = rings;
  long = long;
  near = λ h. let z : ⊥ = omega arith in absurd z;
  under = λ h. let z : ⊥ = omega arith in absurd z;
  far = λ h. let z : ⊥ = omega arith in absurd z;
  ruled = λ i k h four less. let z : ⊥ = omega arith in absurd z;
}

pub before-all : {a b c d p v : List Float} {w marks : List ℕ} (m : Maps) (j n col before cols : ℕ) → cols ≤ col + 3 → Before m j n col before a b c d p v w marks → (length marks ≡ 131072) × Ruled m j n (cols - 4) marks
before-all m j n col before cols end was = (was.long, λ i k h four less. was.ruled i k h four (omega arith))

-- ---- the block that a judged row lies in

pub height-fits : (left : ℕ) → (height_of left ≤ left) × (height_of left ≤ 254)
unfolding height_of
height-fits left = go (ltb left 254) (ltb→lt left 254) (nltb→le left 254) where
  go : (b : Bool) → (T b → left < 254) → (T (not b) → 254 ≤ left) → (cond b left 254 ≤ left) × (cond b left 254 ≤ 254)
  go true less over = let l = less tt in (omega arith, omega arith)
  go false less over = let l = over tt in (omega arith, omega arith)

-- it is the lesser of left and 254
pub height_least : (left : ℕ) → min left 254 ≡ height_of left
unfolding height_of
height_least left = go (ltb left 254) (ltb→lt left 254) (nltb→le left 254) where
  go : (b : Bool) → (T b → left < 254) → (T (not b) → 254 ≤ left) → min left 254 ≡ cond b left 254
  go true less over = let l = less tt in omega arith
  go false less over = let l = over tt in omega arith

height-holds : (left r : ℕ) → r < left → r < 254 → r < height_of left
unfolding height_of
height-holds left r p q = go (ltb left 254) where
  go : (b : Bool) → r < cond b left 254
  go true = p
  go false = q

-- a block that begins at the judged row j
pub block_begun : (m : Maps) (j : ℕ) {marks : List ℕ} → j % 254 ≡ 0 → (length marks ≡ 131072) × Ruled m j (height_of (m.frame.rows - 8 - j)) (m.frame.cols - 4) marks → Block m j marks
block_begun m j {marks} h p =
    let e : j ≡ j / 254 * 254 = omega arith in
    record { long = p.0; ruled = subst (λ (u : ℕ). Ruled m u (height_of (m.frame.rows - 8 - u)) (m.frame.cols - 4) marks) e p.1 }

-- a pixel of the judged row j without a mark lists nothing
pub unmarked-nothing : (m : Maps) (j k : ℕ) {marks : List ℕ} → j + 8 < m.frame.rows → k + 8 < m.frame.cols → Block m j marks → mark_at marks (j % 254) (k + 4) ≡ 0 → (is_max : Bool) → verdict_at m (j + 4) (k + 4) is_max ≡ None
unmarked-nothing m j k {marks} inside within block e is_max =
    let whole : j / 254 * 254 + j % 254 ≡ j = omega arith in
    subst (λ (u : ℕ). verdict_at m (u + 4) (k + 4) is_max ≡ None) whole
    (block.ruled (j % 254) (k + 4) (height-holds _ (j % 254) (omega arith) (omega arith)) (omega arith) (omega arith) e is_max)

-- the next row lies in the same block, unless it begins one
pub block_next : {m : Maps} (j : ℕ) {marks : List ℕ} → Block m j marks → 0 < (j + 1) % 254 → Block m (j + 1) marks
block_next {m} j {marks} p h =
    let e : j / 254 * 254 ≡ (j + 1) / 254 * 254 = omega arith in
    record { long = p.long; ruled = subst (λ (u : ℕ). Ruled m u (height_of (m.frame.rows - 8 - u)) (m.frame.cols - 4) marks) e p.ruled }
