-- The lines of a column fill its slot: what the calls write, and the samples by another name. Assumes nothing.
use Prim.Native.Nat.{ℕ, ◌+◌, ◌≤◌, ◌<◌}
use native.Mathlib.Nat.{zero-add}
use native.Mathlib.Omega.{arith}
use mathlib.Core.Path.{◌≡◌, refl, sym, ap, ◌∙◌, subst, subst₂}
use mathlib.Core.Logic.{◌⊎◌, inl, inr}
use mathlib.Core.List.{List, [], ◌∷◌}
use lib.ListN.{length, get_or}
use lib.Ieee.{Float, nan, neg}
use Rattle.float.specs.Num.{◌⊗◌, f1}
use Rattle.tables.specs.declared.Set.{Set}
use Rattle.tables.specs.declared.Thresholds.{Thresholds}
use Rattle.fit.specs.Cubic.{◌at◌, coeffs_of}
use Rattle.fit.specs.Band.{sign_of}
use Rattle.columns.specs.Line.{Written}
use Rattle.columns.specs.Coef.{under_root, cubic_at, Coefs}
use Rattle.columns.specs.Known.{Known}
use Rattle.columns.specs.Stat.{point_of, height_of, cubic_in, Points}
use Rattle.columns.specs.Gate.{word_of, Words}
use Rattle.columns.specs.declared.Window.{Window}
use Rattle.columns.specs.Sample.{Samples}
use Rattle.rivals.specs.Window.{window_of}
use Rattle.rivals.specs.Ready.{Ready, ReadyAt, Slot}
use Rattle.slots.specs.Column.{Rings, line_at, read_at, Filled}

-- ---- one pixel

-- four numbers that are a cubic's coefficients make the cubic
four_make : (t l : List Float) {x0 x1 x2 x3 : Float} → x0 ≡ coeffs_of t l at 0 → x1 ≡ coeffs_of t l at 1 → x2 ≡ coeffs_of t l at 2 → x3 ≡ coeffs_of t l at 3 → x0 ∷ x1 ∷ x2 ∷ x3 ∷ [] ≡ coeffs_of t l
unfolding coeffs_of
four_make t l e0 e1 e2 e3 = rw (e0, e1, e2, e3) refl

-- a pixel whose numbers are written elsewhere
ready_moved : {s : Set} {th : Thresholds} {l k k' : List Float} {p v q u p' v' q' u' : Float} {w w' : ℕ}
    → k' ≡ k → p' ≡ p → v' ≡ v → q' ≡ q → u' ≡ u → w' ≡ w → Ready s th l k p v q u w → Ready s th l k' p' v' q' u' w'
ready_moved ek ep ev eq eu ew r = record {
  root = r.root;
  cubic = ek ∙ r.cubic;
  known = r.known;
  low-point = ep ∙ r.low-point;
  low-height = ev ∙ r.low-height;
  high-point = eq ∙ r.high-point;
  high-height = eu ∙ r.high-height;
  word = ew ∙ r.word ∙ rw (ep, ev, eq, eu) refl;
}

-- ---- places apart

-- a place of a line that lies apart
place_apart : (y m z n i : ℕ) → (y + m ≤ z) ⊎ (z + n ≤ y) → i < m → (y + i < z) ⊎ (z + n ≤ y + i)
place_apart y m z n i (inl h) less = inl (omega arith)
place_apart y m z n i (inr h) less = inr (omega arith)

-- the same in the second half of a ring of points
place_apart_high : (m z n : ℕ) → (m < z) ⊎ (z + n ≤ m) → (780 + m < 780 + z) ⊎ (780 + z + n ≤ 780 + m)
place_apart_high m z n (inl h) = inl (omega arith)
place_apart_high m z n (inr h) = inr (omega arith)

along : (z i : ℕ) → 780 + z + i ≡ 780 + (z + i)
along z i = omega arith

-- ---- a ring of points, written at z and then at 780 + z

module _ {z n : ℕ} {p p₁ p' : List Float} {P Q : ℕ → Float → Type 0} (inside : z + n ≤ 780) (low : Written nan p p₁ z n P) (high : Written nan p₁ p' (780 + z) n Q) where
  -- the two lines
  low-is : (i : ℕ) → i < n → P i (p' at (z + i))
  low-is i less = subst (P i) (sym (high.same (z + i) (inl (omega arith)))) (low.line i less)

  high_is : (i : ℕ) → i < n → Q i (p' at (780 + (z + i)))
  high_is i less = subst (λ (m : ℕ). Q i (p' at m)) (along z i) (high.line i less)

  -- what lies apart from both, in each half
  low_same : (m : ℕ) → m < 780 → (m < z) ⊎ (z + n ≤ m) → p' at m ≡ p at m
  low_same m less away = high.same m (inl (omega arith)) ∙ low.same m away

  high_same : (m : ℕ) → (m < z) ⊎ (z + n ≤ m) → p' at (780 + m) ≡ p at (780 + m)
  high_same m away = high.same (780 + m) (place_apart_high m z n away) ∙ low.same (780 + m) (inr (omega arith))

  both_long : length p' ≡ length p
  both_long = high.long ∙ low.long

-- ---- the slot

module _ (s : Set) (th : Thresholds) {s0 s1 s2 s3 q q' r r' : List Float} {z n : ℕ} {a b c d p v a' b' c' d' p₁ v₁ p' v' : List Float} {w w' : List ℕ} {g : Window} {most : ℕ}
    (inside : z + n ≤ 780) (long : Rings a b c d p v w) (coefs : Coefs s.scale s0 s1 s2 s3 z n a b c d q a' b' c' d' q') (roots : Written nan r r' 0 n (λ i x. Known x (q' at i)))
    (low : Points (neg f1) a' b' c' d' r' z z n p v p₁ v₁) (high : Points f1 a' b' c' d' r' z (780 + z) n p₁ v₁ p' v') (window : g ≡ window_of th) (words : Words g s0 s1 s2 s3 r' p' v' z n w w' most) where
  -- what stands at place i
  cubic-is : (i : ℕ) → i < n → cubic_in a' b' c' d' (z + i) ≡ coeffs_of s.scale (line_at s0 s1 s2 s3 i)
  unfolding cubic_at
  cubic-is i less = four_make s.scale (line_at s0 s1 s2 s3 i) (coefs.first.line i less) (coefs.second.line i less) (coefs.third.line i less) (coefs.fourth.line i less)

  root_is : (i : ℕ) → i < n → Known (r' at i) (under_root (coeffs_of s.scale (line_at s0 s1 s2 s3 i)))
  unfolding cubic_at
  root_is i less = subst₂ (λ (x y : Float). Known x y) (ap (λ (m : ℕ). r' at m) (zero-add i)) (ap (λ (m : ℕ). q' at m) (sym (zero-add i)) ∙ coefs.root.line i less) (roots.line i less)

  word-is : (i : ℕ) → i < n → get_or w' (z + i) 0 ≡ word_of (window_of th) (line_at s0 s1 s2 s3 i) (p' at (z + i)) (v' at (z + i)) (p' at (780 + (z + i))) (v' at (780 + (z + i))) (r' at i)
  word-is i less = words.words.line i less ∙ ap (λ (m : ℕ). word_of g (line_at s0 s1 s2 s3 i) (p' at (z + i)) (v' at (z + i)) (p' at m) (v' at m) (r' at i)) (along z i) ∙ rw window refl

  slot_is : Slot s th (line_at s0 s1 s2 s3) z n a' b' c' d' p' v' w'
  unfolding sign_of
  slot_is i less = record {
    root = r' at i;
    cubic = cubic-is i less;
    known = root_is i less;
    low-point = low-is inside low.point high.point i less ∙ ap (λ (k : List Float). point_of (neg f1) k (r' at i)) (cubic-is i less);
    low-height = low-is inside low.height high.height i less ∙ ap (λ (k : List Float). height_of (neg f1) k (r' at i)) (cubic-is i less);
    high-point = high_is inside low.point high.point i less ∙ ap (λ (k : List Float). point_of f1 k (r' at i)) (cubic-is i less);
    high-height = high_is inside low.height high.height i less ∙ ap (λ (k : List Float). height_of f1 k (r' at i)) (cubic-is i less);
    word = word-is i less;
  }

  -- a pixel apart from the slot is as it was
  place_kept : (l : List Float) (m : ℕ) → m < 780 → (m < z) ⊎ (z + n ≤ m) → ReadyAt s th l a b c d p v w m → ReadyAt s th l a' b' c' d' p' v' w' m
  place_kept l m less away = ready_moved (rw (coefs.first.same m away, coefs.second.same m away, coefs.third.same m away, coefs.fourth.same m away) refl)
      (low_same inside low.point high.point m less away) (low_same inside low.height high.height m less away)
      (high_same inside low.point high.point m away) (high_same inside low.height high.height m away) (words.words.same m away)

  -- what the calls of `points` write
  pub filled_by : Filled s th (line_at s0 s1 s2 s3) z n a b c d p v w a' b' c' d' p' v' w' most
  filled_by = record {
    slot = slot_is;
    under = λ i less. subst (λ (x : ℕ). x ≤ most) (sym (words.words.line i less)) (words.under i less);
    kept = λ k y m within away old i less. place_kept (k i) (y + i) (omega arith) (place_apart y m z n i away less) (old i less);
    same = words.words.same;
    rings = record {
      first = coefs.first.long ∙ long.first;
      second = coefs.second.long ∙ long.second;
      third = coefs.third.long ∙ long.third;
      fourth = coefs.fourth.long ∙ long.fourth;
      points = both_long inside low.point high.point ∙ long.points;
      values = both_long inside low.height high.height ∙ long.values;
      words = words.words.long ∙ long.words;
    };
  }

-- ---- the samples by another name

pub filled_alike : {s : Set} {th : Thresholds} {k l : ℕ → List Float} {z n : ℕ} {a b c d p v a' b' c' d' p' v' : List Float} {w w' : List ℕ} {most : ℕ} → ((i : ℕ) → i < n → k i ≡ l i)
    → Filled s th k z n a b c d p v w a' b' c' d' p' v' w' most → Filled s th l z n a b c d p v w a' b' c' d' p' v' w' most
filled_alike {s} {th} {z = z} {a' = a'} {b' = b'} {c' = c'} {d' = d'} {p' = p'} {v' = v'} {w' = w'} alike f = record {
  slot = λ i less. subst (λ (x : List Float). ReadyAt s th x a' b' c' d' p' v' w' (z + i)) (alike i less) (f.slot i less);
  under = f.under;
  kept = f.kept;
  same = f.same;
  rings = f.rings;
}

-- the lines of samples are what is read of the levels
pub lines_read : (g : List Float) {l0 l1 l2 l3 : List Float} {left mid right n : ℕ} {s0 s1 s2 s3 s0' s1' s2' s3' : List Float}
    → Samples l0 l1 l2 l3 (g at 0 ⊗ g at 0) (g at 1 ⊗ g at 1) (g at 2 ⊗ g at 2) (g at 3 ⊗ g at 3) left mid right n s0 s1 s2 s3 s0' s1' s2' s3'
    → (i : ℕ) → i < n → line_at s0' s1' s2' s3' i ≡ read_at l0 l1 l2 l3 g left mid right i
lines_read g {s0' = s0'} {s1' = s1'} {s2' = s2'} {s3' = s3'} h i less = rw (from s0' _ (h.first.line i less), from s1' _ (h.second.line i less), from s2' _ (h.third.line i less), from s3' _ (h.fourth.line i less)) refl
  where
    from : (l : List Float) (x : Float) → l at (0 + i) ≡ x → l at i ≡ x
    from l x e = rw (sym (zero-add i)) e
