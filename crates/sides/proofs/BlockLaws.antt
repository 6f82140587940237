-- A part of a column, from its own lines to the cubics gathered beside its candidates: what one call leaves for the next. Assumes nothing.
use Prim.Native.Nat.{ℕ, ◌+◌, ◌%◌, ◌≤◌, ◌<◌}
use native.Mathlib.Omega.{arith}
use mathlib.Core.Path.{◌≡◌, refl, ◌∙◌, subst}
use mathlib.Core.Logic.{inl}
use mathlib.Core.List.{List}
use lib.ListN.{length, get_or}
use lib.Ieee.{Float}
use Rattle.tables.specs.declared.Set.{Set}
use Rattle.tables.specs.declared.Thresholds.{Thresholds}
use Rattle.samples.specs.Level.{stencil_of}
use Rattle.samples.specs.Four.{Four, samples_by}
use Rattle.columns.specs.Line.{Written}
use Rattle.columns.specs.Sample.{stencil_at, Reach}
use Rattle.columns.specs.Stat.{cubic_in}
use Rattle.rivals.proofs.ThinLaws.{unsure}
use Rattle.slots.specs.Column.{Rings, read_at, Filled}
use Rattle.slots.proofs.ColumnLaws.{filled_alike}
use Rattle.nine.specs.Nine.{Span, Spans, three_of}
use Rattle.gather.specs.Gather.{Long, Gathered}
use Rattle.sides.specs.Beside.{CubicsAt, Left}
use Rattle.sides.proofs.LeftLaws.{opened_plain, left-none}

-- ---- the own lines

-- what they read of a level lies in it
reach_of : (n : ℕ) {len left mid right : ℕ} → Span len len left mid right (n + 3) → Reach len left mid right (n + 2)
reach_of n s = record { up = s.up; down = omega (arith, s.down); before = omega (arith, s.before); after = omega (arith, s.behind); most = s.small }

-- and of each of the four
pub reach_all : (l : Four) (n : ℕ) {left mid right : ℕ} → Spans l l left mid right (n + 3)
    → ((Reach (length l.l0) left mid right (n + 2)) × (Reach (length l.l1) left mid right (n + 2)))
    × ((Reach (length l.l2) left mid right (n + 2)) × (Reach (length l.l3) left mid right (n + 2)))
reach_all l n s = ((reach_of n s.l0, reach_of n s.l1), (reach_of n s.l2, reach_of n s.l3))

-- the samples that they are made of are those of the middle column
own_read : (l r : Four) (u x y z t : ℕ) (g : List Float) (i : ℕ) → read_at l.l0 l.l1 l.l2 l.l3 g x y z i ≡ three_of l r u x y z t g 1 i
unfolding stencil_at stencil_of samples_by three_of
own_read l r u x y z t g i = refl

-- the slot at 0 is filled with that column's
pub own_filled : {s : Set} {th : Thresholds} (l r : Four) (u x y z t : ℕ) (g : List Float) {m : ℕ} {a b c d p v a' b' c' d' p' v' : List Float} {w w' : List ℕ} {most : ℕ}
    → Filled s th (read_at l.l0 l.l1 l.l2 l.l3 g x y z) 0 m a b c d p v w a' b' c' d' p' v' w' most → Filled s th (three_of l r u x y z t g 1) 0 m a b c d p v w a' b' c' d' p' v' w' most
own_filled l r u x y z t g = filled_alike (λ i less. own_read l r u x y z t g i)

-- where no word of the lines has a bit, nothing is left but the pixels of which too little is known
pub filled_none : (s : Set) (th : Thresholds) (l : ℕ → ℕ → List Float) (n : ℕ) {a b c d p v a' b' c' d' p' v' : List Float} {w w' keep keep₁ : List ℕ} {most : ℕ} → n ≤ 254 → length keep ≡ 256
    → Filled s th (l 1) 0 (n + 2) a b c d p v w a' b' c' d' p' v' w' most → most ≡ 0 → Written 0 keep keep₁ 0 256 (λ i x. x ≡ unsure w' 0 i) → Left s th l n keep₁
filled_none s th l n {a' = a'} {b' = b'} {c' = c'} {d' = d'} {p' = p'} {v' = v'} {w' = w'} {keep = keep} {keep₁ = keep₁} {most = most} few long filled none opened =
    left-none s th l n a' b' c' d' p' v' w' keep keep₁ few long filled.slot (opened_plain w' opened) under
  where
    under : (i : ℕ) → i < n → get_or w' (i + 1) 0 ≤ 0
    under i h =
        let place : 0 + (i + 1) ≡ i + 1 = omega arith in
        subst (λ (m : ℕ). get_or w' m 0 ≤ 0) place (subst (λ (m : ℕ). get_or w' (0 + (i + 1)) 0 ≤ m) none (filled.under (i + 1) (omega arith)))

-- ---- the cubics beside the candidates

-- four of the rings are long
pub four_long : {a b c d p v : List Float} {w : List ℕ} → Rings a b c d p v w → Long a b c d
four_long r = record { first = r.first; second = r.second; third = r.third; fourth = r.fourth }

-- the rings with four others in their place
pub rings-with : {a b c d a' b' c' d' p v : List Float} {w : List ℕ} → Rings a b c d p v w → Long a' b' c' d' → Rings a' b' c' d' p v w
rings-with r g = record { first = g.first; second = g.second; third = g.third; fourth = g.fourth; points = r.points; values = r.values; words = r.words }

module _ (s : Set) {before after : ℕ → List Float} {n k : ℕ} {codes : List ℕ} {a b c d a₁ b₁ c₁ d₁ a₂ b₂ c₂ d₂ : List Float} (few : n ≤ 254)
    (left : Gathered s.scale before 260 n k codes a b c d a₁ b₁ c₁ d₁) (right : Gathered s.scale after 520 n k codes a₁ b₁ c₁ d₁ a₂ b₂ c₂ d₂) where
  -- those of the own column are as they were
  pub own_same : (j : ℕ) → j < 260 → cubic_in a₂ b₂ c₂ d₂ j ≡ cubic_in a b c d j
  own_same j h = right.same j (inl (omega arith)) ∙ left.same j (inl h)

  -- those of the column before it stand
  pub before_stand : (j : ℕ) → j < k → get_or codes j 0 % 780 < n → CubicsAt s before 260 (get_or codes j 0 % 780) a₂ b₂ c₂ d₂
  before_stand j h inside q less = right.same (260 + get_or codes j 0 % 780 + q) (inl (omega arith)) ∙ left.here j h inside q less

  -- and those of the one after it
  pub after_stand : (j : ℕ) → j < k → get_or codes j 0 % 780 < n → CubicsAt s after 520 (get_or codes j 0 % 780) a₂ b₂ c₂ d₂
  after_stand j h inside q less = right.here j h inside q less
