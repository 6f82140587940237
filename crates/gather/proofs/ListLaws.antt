-- What is gathered beside a list of candidates, samples a level at a time and then cubics: none yet, and one code more. Assumes nothing.
use Prim.Native.Nat.{ℕ, ◌+◌, ◌-◌, ◌%◌, ◌≤◌, ◌<◌}
use native.Mathlib.Nat.{add_assoc}
use native.Mathlib.Omega.{arith}
use mathlib.Core.Path.{◌≡◌, refl, sym, ap, ◌∙◌, subst}
use mathlib.Core.Logic.{◌⊎◌, inl, inr}
use mathlib.Core.Bool.{Bool, true, false, not}
use mathlib.Core.List.{List}
use lib.Dec.{T, ltb, ltb→lt, nltb→le}
use lib.ListN.{length, get_or}
use lib.Ieee.{Float, nan}
use borrow.Author.Count.{below_none, below_more}
use Rattle.float.specs.Num.{◌⊗◌}
use Rattle.samples.specs.Four.{Four}
use Rattle.fit.specs.Cubic.{◌at◌, coeffs_of}
use Rattle.columns.specs.Line.{Written}
use Rattle.columns.specs.Stat.{cubic_in}
use Rattle.nine.specs.Nine.{Span, Spans, stencil_by}
use Rattle.gather.specs.Gather.{Long, samples_from, Gathered}
use Rattle.gather.specs.Step.{Each, Put, Tried, done, passed, sample_from, Lined, Sampled, lines_at}
use Rattle.gather.proofs.StepLaws.{lines_are}

-- ---- fewer places

-- of a level
span_less : {n m left mid right c e : ℕ} → e ≤ c → Span n m left mid right c → Span n m left mid right e
span_less less s = record { up = s.up; down = omega (arith, s.down); before = omega (arith, s.before); behind = omega (arith, s.behind); small = s.small }

-- of four levels
pub spans_less : {l r : Four} {left mid right c e : ℕ} → e ≤ c → Spans l r left mid right c → Spans l r left mid right e
spans_less less s = record { l0 = span_less less s.l0; l1 = span_less less s.l1; l2 = span_less less s.l2; l3 = span_less less s.l3 }

-- ---- a place before, among or after four

-- one of three
where_is : (p h : ℕ) → (p < h) ⊎ ((h + 4 ≤ p) ⊎ ((h ≤ p) × (p < h + 4)))
where_is p h = go (ltb p h) (λ y. ltb→lt p h y) (λ y. nltb→le p h y) (ltb p (h + 4)) (λ y. ltb→lt p (h + 4) y) (λ y. nltb→le p (h + 4) y)
  where
    go : (b : Bool) → (T b → p < h) → (T (not b) → h ≤ p) → (e : Bool) → (T e → p < h + 4) → (T (not e) → h + 4 ≤ p) → (p < h) ⊎ ((h + 4 ≤ p) ⊎ ((h ≤ p) × (p < h + 4)))
    go true y k e m n = inl (y tt)
    go false y k false m n = inr (inl (n tt))
    go false y k true m n = inr (inr (k tt, m tt))

-- a place outside of the slot is none of the four
outside : (z n h i : ℕ) → n ≤ 254 → h < n → (i < z) ⊎ (z + 257 ≤ i) → (i < z + h) ⊎ (z + h + 4 ≤ i)
outside z n h i few less (inl k) = inl (omega arith)
outside z n h i few less (inr k) = inr (omega arith)

module _ {t : List Float} {f : ℕ → List Float} {z h : ℕ} {a b c d a' b' c' d' : List Float} (put : Put t f z h a b c d a' b' c' d') where
  -- a place's cubic that stands there is left, or written once more
  kept : (p : ℕ) → cubic_in a b c d (z + p) ≡ coeffs_of t (f p) → cubic_in a' b' c' d' (z + p) ≡ coeffs_of t (f p)
  kept p old = go (where_is p h)
    where
      go : (p < h) ⊎ ((h + 4 ≤ p) ⊎ ((h ≤ p) × (p < h + 4))) → cubic_in a' b' c' d' (z + p) ≡ coeffs_of t (f p)
      go (inl k) = put.same (z + p) (inl (omega arith)) ∙ old
      go (inr (inl k)) = put.same (z + p) (inr (omega arith)) ∙ old
      go (inr (inr k)) =
          let one : z + h + (p - h) ≡ z + p = omega (arith, k.0) in
          let two : h + (p - h) ≡ p = omega (arith, k.0) in
          subst (λ (x : ℕ). cubic_in a' b' c' d' x ≡ coeffs_of t (f p)) one (subst (λ (y : ℕ). cubic_in a' b' c' d' (z + h + (p - h)) ≡ coeffs_of t (f y)) two (put.here (p - h) (omega (arith, k.1))))

  -- the same, from a pixel's place on
  kept-after : (e q : ℕ) → cubic_in a b c d (z + e + q) ≡ coeffs_of t (f (e + q)) → cubic_in a' b' c' d' (z + e + q) ≡ coeffs_of t (f (e + q))
  kept-after e q old = subst (λ (x : ℕ). cubic_in a' b' c' d' x ≡ coeffs_of t (f (e + q))) (sym (add_assoc z e q))
      (kept (e + q) (subst (λ (x : ℕ). cubic_in a b c d x ≡ coeffs_of t (f (e + q))) (add_assoc z e q) old))

-- ---- the list

-- before the first code
pub gathered_none : (t : List Float) (f : ℕ → List Float) (z n : ℕ) (codes : List ℕ) {a b c d : List Float} → Long a b c d → Gathered t f z n 0 codes a b c d a b c d
gathered_none t f z n codes long = record { here = below_none _; same = λ i away. refl; long = long }

-- one code more
module _ {t : List Float} {f : ℕ → List Float} {z n i : ℕ} {codes : List ℕ} {a b c d a₁ b₁ c₁ d₁ a₂ b₂ c₂ d₂ : List Float} (few : n ≤ 254)
    (old : Gathered t f z n i codes a b c d a₁ b₁ c₁ d₁) where
  -- tried at the next code's pixel
  at_code : Tried t f z n (get_or codes i 0 % 780) a₁ b₁ c₁ d₁ a₂ b₂ c₂ d₂ → Gathered t f z n (i + 1) codes a b c d a₂ b₂ c₂ d₂
  at_code (done less put) = record {
    here = below_more _ i (λ j before inside q few. kept-after put (get_or codes j 0 % 780) q (old.here j before inside q few)) (λ inside q few. put.here q (omega arith));
    same = λ k away. put.same k (outside z n (get_or codes i 0 % 780) k few less away) ∙ old.same k away;
    long = put.long;
  }
  at_code (passed more ea eb ec ed) = record {
    here = below_more _ i (λ j before inside q few. rw (ea, eb, ec, ed) (old.here j before inside q few)) (λ inside q few. absurd (apart more inside));
    same = λ k away. rw (ea, eb, ec, ed) (old.same k away);
    long = record { first = ap length ea ∙ old.long.first; second = ap length eb ∙ old.long.second; third = ap length ec ∙ old.long.third; fourth = ap length ed ∙ old.long.fourth };
  }
    where
      apart : {x : ℕ} → n ≤ x → x < n → ⊥
      apart h k = omega arith

  -- the same, the pixel by another name
  pub gathered_more : (h : ℕ) → h ≡ get_or codes i 0 % 780 → Tried t f z n h a₁ b₁ c₁ d₁ a₂ b₂ c₂ d₂ → Gathered t f z n (i + 1) codes a b c d a₂ b₂ c₂ d₂
  gathered_more h e tried = at_code (subst (λ (x : ℕ). Tried t f z n x a₁ b₁ c₁ d₁ a₂ b₂ c₂ d₂) e tried)

-- ---- the samples of a level

-- no more in a line
pub lined_past : {f : ℕ → Float} {n h : ℕ} {s : List Float} → n ≤ h → length s ≡ 260 → Lined f n h s s
lined_past {f} {n} {h} past long = record { kept = λ i e. e; here = λ less. absurd (apart past less); long = long }
  where
    apart : n ≤ h → h < n → ⊥
    apart a b = omega arith

-- four more
module _ (l r : List Float) (left mid right : ℕ) (square : Float) {n h : ℕ} {s s' : List Float} where
  -- a place that holds its sample is left, or written once more
  pub lined_here : (x : List Float) → Each x (λ q. stencil_by l r (left + h + q) (mid + h + q) (right + h + q) square) → Written nan s s' h 4 (λ q y. y ≡ x at q) → length s ≡ 260
      → Lined (sample_from l r left mid right square) n h s s'
  lined_here x each w long = record { kept = λ i e. go i e (where_is i h); here = λ less. here; long = w.long ∙ long }
    where
      here : (q : ℕ) → q < 4 → s' at (h + q) ≡ sample_from l r left mid right square (h + q)
      here q few = w.line q few ∙ each q few ∙ rw (add_assoc left h q, add_assoc mid h q, add_assoc right h q) refl

      go : (i : ℕ) → s at i ≡ sample_from l r left mid right square i → (i < h) ⊎ ((h + 4 ≤ i) ⊎ ((h ≤ i) × (i < h + 4))) → s' at i ≡ sample_from l r left mid right square i
      go i e (inl k) = w.same i (inl k) ∙ e
      go i e (inr (inl k)) = w.same i (inr k) ∙ e
      go i e (inr (inr k)) =
          let own : h + (i - h) ≡ i = omega (arith, k.0) in
          subst (λ (y : ℕ). s' at y ≡ sample_from l r left mid right square y) own (here (i - h) (omega (arith, k.1)))

-- before the first code
pub sampled_none : (f : ℕ → Float) (n : ℕ) (codes : List ℕ) {s : List Float} → length s ≡ 260 → Sampled f n 0 codes s
sampled_none f n codes long = record { here = below_none _; long = long }

-- one code more
pub sampled_more : {f : ℕ → Float} {n i : ℕ} {codes : List ℕ} {s s' : List Float} → Sampled f n i codes s → (h : ℕ) → h ≡ get_or codes i 0 % 780 → Lined f n h s s' → Sampled f n (i + 1) codes s'
sampled_more {f} {n} {i} {codes} {s} {s'} old h e lined = record {
  here = below_more _ i (λ j before inside q few. lined.kept _ (old.here j before inside q few))
      (subst (λ (x : ℕ). x < n → (q : ℕ) → q < 4 → s' at (x + q) ≡ f (x + q)) e lined.here);
  long = lined.long;
}

-- cubics by lines of the levels' samples are those by the levels
pub gathered_by : (l r : Four) (left mid right : ℕ) (g s0 s1 s2 s3 : List Float) {t : List Float} {z n k : ℕ} {codes : List ℕ} {a b c d a' b' c' d' : List Float}
    → Sampled (sample_from l.l0 r.l0 left mid right (g at 0 ⊗ g at 0)) n k codes s0 → Sampled (sample_from l.l1 r.l1 left mid right (g at 1 ⊗ g at 1)) n k codes s1
    → Sampled (sample_from l.l2 r.l2 left mid right (g at 2 ⊗ g at 2)) n k codes s2 → Sampled (sample_from l.l3 r.l3 left mid right (g at 3 ⊗ g at 3)) n k codes s3
    → Gathered t (lines_at s0 s1 s2 s3) z n k codes a b c d a' b' c' d' → Gathered t (samples_from l r left mid right g) z n k codes a b c d a' b' c' d'
gathered_by l r left mid right g s0 s1 s2 s3 {t} {codes = codes} is0 is1 is2 is3 old = record {
  here = λ j less inside q few.
      let room : q < 4 = omega arith in
      old.here j less inside q few
      ∙ ap (coeffs_of t) (lines_are l r left mid right g s0 s1 s2 s3 (get_or codes j 0 % 780 + q) (is0.here j less inside q room) (is1.here j less inside q room) (is2.here j less inside q room) (is3.here j less inside q room));
  same = old.same;
  long = old.long;
}
