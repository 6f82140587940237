-- Laws of the lists of candidates: an entry written after the first m, which counts or not, and one turn of the loops that pack and thin. Assumes nothing.
use Prim.Native.Nat.{ℕ, ◌+◌, ◌/◌, ◌%◌, ◌≤◌, ◌<◌}
use native.Mathlib.Nat.{ne_of_lt}
use native.Mathlib.Omega.{arith}
use mathlib.Core.Path.{◌≡◌, refl, ◌∙◌, subst}
use mathlib.Core.Logic.{◌⊎◌, inl, inr, ⊎_elim}
use mathlib.Core.Bool.{Bool, true, false, cond, not}
use mathlib.Core.List.{List}
use lib.ListN.{length, get_or, set, length-set}
use lib.Seq.{get_or-set_same, get_or-set_other}
use mir.Val.{bool_byte}
use borrow.Author.Count.{below_none, below_more}
use Rattle.rivals.specs.List.{Among, Coded, Packed, Thinned}

-- ---- e written at m, and b entries counted more

module _ (l : List ℕ) (m e b : ℕ) where
  -- an entry among the first m stays among them
  pub among_kept : {x : ℕ} → Among l m x → Among (set l m e) (m + b) x
  among_kept a = let less = a.inside in record { place = a.place; inside = omega arith; is = get_or-set_other l m a.place e 0 (ne_of_lt less) ∙ a.is }

  -- the entry written is among them if it counts
  pub among_here : m < length l → b ≡ 1 → Among (set l m e) (m + b) e
  among_here long one = record { place = m; inside = omega arith; is = get_or-set_same l m e 0 long }

  pub coded-more : m < length l → b ≤ 1 → (e % 780 ≤ 253) × (e ≤ 1033) → Coded l m → Coded (set l m e) (m + b)
  coded-more long most code coded j h =
      below_more (λ j. (get_or (set l m e) j 0 % 780 ≤ 253) × (get_or (set l m e) j 0 ≤ 1033)) m
      (λ j less. rw (get_or-set_other l m j e 0 (ne_of_lt less)) (coded j less))
      (rw (get_or-set_same l m e 0 long) code)
      j (omega arith)

-- ---- packing

pub packed_none : (y : ℕ) (w : List ℕ) {l : List ℕ} → length l ≡ 512 → Packed 0 y w l 0
packed_none y w long = record {
  low = below_none _;
  high = below_none _;
  coded = below_none _;
  few = omega arith;
  long = long;
}

-- both codes of a pixel are codes
low_code : (i : ℕ) → i < 254 → (i % 780 ≤ 253) × (i ≤ 1033)
low_code i h = (omega arith, omega arith)

high_code : (i : ℕ) → i < 254 → ((i + 780) % 780 ≤ 253) × (i + 780 ≤ 1033)
high_code i h = (omega arith, omega arith)

-- one pixel more, with its word's bits
pub packed_more : {y i m : ℕ} {w l : List ℕ} (low high : ℕ) → i < 254 → Packed i y w l m
    → (low ≡ get_or w (y + i + 1) 0 % 2) × (low ≤ 1) → (high ≡ get_or w (y + i + 1) 0 / 2 % 2) × (high ≤ 1)
    → Packed (i + 1) y w (set (set l m i) (m + low) (i + 780)) (m + low + high)
packed_more {y} {i} {m} {w} {l} low high inside p first second =
    let few = p.few in
    let long = p.long in
    let room : m < length l = omega arith in
    let longer : length (set l m i) ≡ 512 = length-set l m i ∙ long in
    let beside : m + low < length (set l m i) = omega (arith, first.1) in
    record {
      low = below_more (λ j. get_or w (y + j + 1) 0 % 2 ≡ 1 → Among _ _ j) i
          (λ j less bit. among_kept _ _ _ high (among_kept l m i low (p.low j less bit)))
          (λ bit. among_kept _ _ _ high (among_here l m i low room (first.0 ∙ bit)));
      high = below_more (λ j. get_or w (y + j + 1) 0 / 2 % 2 ≡ 1 → Among _ _ (780 + j)) i
          (λ j less bit. among_kept _ _ _ high (among_kept l m i low (p.high j less bit)))
          (λ bit. let e : 780 + i ≡ i + 780 = omega arith in rw e (among_here (set l m i) (m + low) (i + 780) high beside (second.0 ∙ bit)));
      coded = coded-more (set l m i) (m + low) (i + 780) high beside second.1 (high_code i inside) (coded-more l m i low room first.1 (low_code i inside) p.coded);
      few = omega (arith, first.1, second.1);
      long = length-set (set l m i) (m + low) (i + 780) ∙ longer;
    }

-- ---- thinning in place

module _ (Q : ℕ → Type 0) (before : List ℕ) where
  -- the first j entries are thinned, those from j on are as they were
  pub record Thinning (j : ℕ) (l : List ℕ) (m : ℕ) : Type 0 where
    pub first : Thinned Q before j l m
    pub rest : (i : ℕ) → j ≤ i → get_or l i 0 ≡ get_or before i 0

  pub thinning_none : Thinning 0 before 0
  thinning_none = record {
    first = record { kept = below_none _; coded = below_none _; few = omega arith; long = refl };
    rest = λ i h. refl;
  }

  -- the next entry is a code still
  pub thinning_code : {j m : ℕ} {l : List ℕ} (k : ℕ) → Coded before k → j < k → Thinning j l m → (get_or l j 0 % 780 ≤ 253) × (get_or l j 0 ≤ 1033)
  thinning_code {j} k coded less t = rw (t.rest j (omega arith)) (coded j less)

  -- one entry more, which counts unless the test gives Q of it
  pub thinning_more : {j m : ℕ} {l : List ℕ} (k : ℕ) (test : Bool) (b : ℕ) → Coded before k → j < k → k ≤ length before
      → (test ≡ true → Q (get_or l j 0)) → (b ≡ cond test 0 1) × (b ≤ 1) → Thinning j l m → Thinning (j + 1) (set l m (get_or l j 0)) (m + b)
  thinning_more {j} {m} {l} k test b coded less most gives counted t =
      let few = t.first.few in
      let long = t.first.long in
      let room : m < length l = omega arith in
      let same = t.rest j (omega arith) in
      record {
        first = record {
          kept = below_more (λ i. Among _ _ (get_or before i 0) ⊎ Q (get_or before i 0)) j
              (λ i h. ⊎_elim (λ a. inl (among_kept l m (get_or l j 0) b a)) (λ q. inr q) (t.first.kept i h))
              (subst (λ (x : ℕ). Among (set l m (get_or l j 0)) (m + b) x ⊎ Q x) same (go test gives room counted.0));
          coded = coded-more l m (get_or l j 0) b room counted.1 (thinning_code k coded less t) t.first.coded;
          few = omega (arith, counted.1);
          long = length-set l m (get_or l j 0) ∙ long;
        };
        rest = λ i h. get_or-set_other l m i (get_or l j 0) 0 (λ e. omega arith) ∙ t.rest i (omega arith);
      }
    where
      go : (test : Bool) → (test ≡ true → Q (get_or l j 0)) → m < length l → b ≡ cond test 0 1 → Among (set l m (get_or l j 0)) (m + b) (get_or l j 0) ⊎ Q (get_or l j 0)
      go true gives room e = inr (gives refl)
      go false gives room e = inl (among_here l m (get_or l j 0) b room e)

-- a code counts unless the test holds of it
pub counted_not : {b : ℕ} (test : Bool) → b ≡ bool_byte (not test) → (b ≡ cond test 0 1) × (b ≤ 1)
counted_not true e = (e, omega arith)
counted_not false e = (e, omega arith)

-- a code of the list before is among those after it, or has Q
pub thinned_code : {Q : ℕ → Type 0} {codes codes' : List ℕ} {m k e : ℕ} → Thinned Q codes m codes' k → Among codes m e → Among codes' k e ⊎ Q e
thinned_code {Q} {codes' = codes'} {k = k} thinned here = subst (λ (e : ℕ). Among codes' k e ⊎ Q e) here.is (thinned.kept here.place here.inside)
