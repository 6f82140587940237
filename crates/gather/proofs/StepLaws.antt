-- Laws of four places at once: listed one by one, written, and their cubics. Assumes nothing.
use Prim.Native.Nat.{ℕ, zero, suc, ◌+◌, ◌≤◌, ◌<◌}
use native.Mathlib.Nat.{add-zero}
use native.Mathlib.Omega.{arith}
use mathlib.Core.Path.{◌≡◌, refl, ◌∙◌}
use mathlib.Core.List.{List, [], ◌∷◌}
use lib.ListN.{length, set}
use lib.Ieee.{Float, nan}
use Rattle.float.specs.Num.{◌⊕◌, ◌⊖◌, ◌⊗◌}
use Rattle.fit.specs.Cubic.{◌at◌, row_of, coeffs_of}
use Rattle.samples.specs.Level.{stencil_of}
use Rattle.samples.specs.Four.{Four, samples_by}
use Rattle.columns.specs.Line.{Written}
use Rattle.columns.specs.Stat.{cubic_in}
use Rattle.columns.proofs.LineLaws.{written_none, written-more}
use Rattle.gather.specs.Gather.{Long, samples_from}
use Rattle.nine.specs.Nine.{stencil_by}
use Rattle.gather.specs.Step.{Each, Rows, Put, sample_from, lines_at}

-- ---- four of a list

-- what is so at 0 to 3
below_four : (P : ℕ → Type 0) → P 0 → P 1 → P 2 → P 3 → (q : ℕ) → q < 4 → P q
below_four P p0 p1 p2 p3 zero h = p0
below_four P p0 p1 p2 p3 (suc zero) h = p1
below_four P p0 p1 p2 p3 (suc (suc zero)) h = p2
below_four P p0 p1 p2 p3 (suc (suc (suc zero))) h = p3
below_four P p0 p1 p2 p3 (suc (suc (suc (suc q)))) h = let z : ⊥ = omega arith in absurd z

-- four given one by one
pub each-listed : (f : ℕ → Float) {x0 x1 x2 x3 : Float} → x0 ≡ f 0 → x1 ≡ f 1 → x2 ≡ f 2 → x3 ≡ f 3 → Each (x0 ∷ x1 ∷ x2 ∷ x3 ∷ []) f
each-listed f {x0} {x1} {x2} {x3} e0 e1 e2 e3 = below_four (λ q. (x0 ∷ x1 ∷ x2 ∷ x3 ∷ []) at q ≡ f q) e0 e1 e2 e3

-- a level's four samples
pub samples_listed : (l r : List Float) (left mid right : ℕ) (square : Float) {x0 x1 x2 x3 : Float} → x0 ≡ stencil_by l r left mid right square
    → x1 ≡ stencil_by l r (left + 1) (mid + 1) (right + 1) square → x2 ≡ stencil_by l r (left + 2) (mid + 2) (right + 2) square → x3 ≡ stencil_by l r (left + 3) (mid + 3) (right + 3) square
    → Each (x0 ∷ x1 ∷ x2 ∷ x3 ∷ []) (λ q. stencil_by l r (left + q) (mid + q) (right + q) square)
samples_listed l r left mid right square e0 e1 e2 e3 = each-listed (λ q. stencil_by l r (left + q) (mid + q) (right + q) square) (rw (add-zero left, add-zero mid, add-zero right) e0) e1 e2 e3

-- ---- four entries written

-- one after the other
pub four_written : (x a : List Float) (m : ℕ) → m + 4 ≤ length a
    → Written nan a (set (set (set (set a m (x at 0)) (m + 1) (x at 1)) (m + 2) (x at 2)) (m + 3) (x at 3)) m 4 (λ q y. y ≡ x at q)
four_written x a m room =
    let none = written_none nan a m (λ q y. y ≡ x at q) in
    let one = written-more nan (set a m (x at 0)) (x at 0) none (omega arith) (rw add-zero refl) refl in
    let two = written-more nan (set (set a m (x at 0)) (m + 1) (x at 1)) (x at 1) one (omega arith) refl refl in
    let three = written-more nan (set (set (set a m (x at 0)) (m + 1) (x at 1)) (m + 2) (x at 2)) (x at 2) two (omega arith) refl refl in
    written-more nan _ (x at 3) three (omega arith) refl refl

-- entries that are f 0 to f 3
pub each-written : {a a' : List Float} {m : ℕ} (x : List Float) (f : ℕ → Float) → Each x f → Written nan a a' m 4 (λ q y. y ≡ x at q) → Written nan a a' m 4 (λ q y. y ≡ f q)
each-written x f each w = record { line = λ q h. w.line q h ∙ each q h; same = w.same; long = w.long }

-- ---- a place's cubic

-- what four lines of samples have at a place are the samples there
pub lines_are : (l r : Four) (left mid right : ℕ) (g s0 s1 s2 s3 : List Float) (i : ℕ)
    → s0 at i ≡ sample_from l.l0 r.l0 left mid right (g at 0 ⊗ g at 0) i → s1 at i ≡ sample_from l.l1 r.l1 left mid right (g at 1 ⊗ g at 1) i
    → s2 at i ≡ sample_from l.l2 r.l2 left mid right (g at 2 ⊗ g at 2) i → s3 at i ≡ sample_from l.l3 r.l3 left mid right (g at 3 ⊗ g at 3) i
    → lines_at s0 s1 s2 s3 i ≡ samples_from l r left mid right g i
unfolding samples_by stencil_by stencil_of
lines_are l r left mid right g s0 s1 s2 s3 i e0 e1 e2 e3 = rw (e0, e1, e2, e3) refl

-- the coefficients from the differences
coefficients_make : (t k : List Float) {d0 d1 d2 s x0 x1 x2 x3 : Float} → d0 ≡ k at 0 ⊖ k at 3 → d1 ≡ k at 1 ⊖ k at 3 → d2 ≡ k at 2 ⊖ k at 3 → s ≡ k at 3
    → x0 ≡ row_of t 0 d0 d1 d2 → x1 ≡ row_of t 3 d0 d1 d2 → x2 ≡ row_of t 6 d0 d1 d2 → x3 ≡ row_of t 9 d0 d1 d2 ⊕ s → x0 ∷ x1 ∷ x2 ∷ x3 ∷ [] ≡ coeffs_of t k
unfolding coeffs_of
coefficients_make t k e0 e1 e2 e3 f0 f1 f2 f3 = rw (f0, f1, f2, f3, e0, e1, e2, e3) refl

module _ (t s0 s1 s2 s3 : List Float) (z h : ℕ) (x0 x1 x2 x3 : List Float) {d0 d1 d2 a b c d a' b' c' d' : List Float} (long : Long a b c d) (is3 : Each x3 (λ q. s3 at (h + q)))
    (is0 : Each x0 (λ q. s0 at (h + q))) (less0 : Each d0 (λ q. x0 at q ⊖ x3 at q)) (is1 : Each x1 (λ q. s1 at (h + q))) (less1 : Each d1 (λ q. x1 at q ⊖ x3 at q))
    (is2 : Each x2 (λ q. s2 at (h + q))) (less2 : Each d2 (λ q. x2 at q ⊖ x3 at q)) (rows : Rows t d0 d1 d2 x3 (z + h) a b c d a' b' c' d') where
  -- the cubic at the q-th of the places
  cubic-is : (q : ℕ) → q < 4 → cubic_in a' b' c' d' (z + h + q) ≡ coeffs_of t (lines_at s0 s1 s2 s3 (h + q))
  cubic-is q less =
      coefficients_make t (lines_at s0 s1 s2 s3 (h + q))
      (less0 q less ∙ rw (is0 q less, is3 q less) refl) (less1 q less ∙ rw (is1 q less, is3 q less) refl) (less2 q less ∙ rw (is2 q less, is3 q less) refl) (is3 q less)
      (rows.first.line q less) (rows.second.line q less) (rows.third.line q less) (rows.fourth.line q less)

  -- what the calls of `put_cubics` write
  pub cubics_put : Put t (lines_at s0 s1 s2 s3) z h a b c d a' b' c' d'
  cubics_put = record {
    here = cubic-is;
    same = λ i away. rw (rows.first.same i away, rows.second.same i away, rows.third.same i away, rows.fourth.same i away) refl;
    long = record {
      first = rows.first.long ∙ long.first;
      second = rows.second.long ∙ long.second;
      third = rows.third.long ∙ long.third;
      fourth = rows.fourth.long ∙ long.fourth;
    };
  }
