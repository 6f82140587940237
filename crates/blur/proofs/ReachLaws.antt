-- How far a lost raw pixel reaches. Assumes nothing.
use Prim.Native.Nat.{ℕ, zero, suc, ◌-◌, ◌≤◌, ◌<◌}
use native.Mathlib.Omega.{arith}
use native.Mathlib.Nat.{not-suc-le-zero}
use mathlib.Core.Path.{◌≡◌, refl, sym, ◌∙◌}
use mathlib.Core.Bool.{Bool, true, false, ◌&&◌, ◌||◌, false≢true}
use mathlib.Core.Logic.{◌⊎◌, ⊎_elim, inl, inr}
use mathlib.Core.List.{List}
use lib.Dec.{leb}
use lib.Ieee.{Float}
use borrow.Author.Count.{below_more}
use borrow.Author.Tests.{leb-true, le-leb}
use Rattle.float.specs.Small.{finite}
use Rattle.float.proofs.Bools.{both, neither, contrary}
use Rattle.grid.specs.Grid.{pixel_at}
use Rattle.kernels.specs.declared.Kernel.{Kernel}
use Rattle.blur.specs.Blur.{across_at, level_at, level_of}
use Rattle.blur.specs.Reach.{off, some_under, somewhere, near, reached, LossyRaw}
use Rattle.blur.proofs.LevelLaws.{level_pixel}
use Rattle.blur.proofs.Pass.{pass_same, pass_finite}

-- ---- one level

module _ (rows cols : ℕ) (k : Kernel) (row col : ℕ) (hr : row < rows) (hc : col < cols) where
  -- Two raw maps that agree at all pixels at most the radius off in rows and in cols have the same float in the level.
  pub level_same : (a b : List Float)
      → ((r c : ℕ) → r < rows → c < cols → off row r ≤ k.radius → off col c ≤ k.radius → pixel_at a rows r c ≡ pixel_at b rows r c)
      → level_at a rows cols k row col ≡ level_at b rows cols k row col
  unfolding level_at across_at
  level_same a b e =
      pass_same (rows - 1) k.taps row (omega arith) _ _ k.radius
      (λ r inside h.
      pass_same (cols - 1) k.taps col (omega arith) _ _ k.radius
      (λ c within g. e r c (omega arith) (omega arith) h g))

  -- A level's float is finite only where all raw pixels at most the radius off are, whatever the taps are.
  pub level_finite : (a : List Float) → finite (level_at a rows cols k row col) ≡ true
      → (r c : ℕ) → r < rows → c < cols → off row r ≤ k.radius → off col c ≤ k.radius → finite (pixel_at a rows r c) ≡ true
  unfolding level_at across_at
  level_finite a h r c ir ic nr nc =
      pass_finite (cols - 1) k.taps col (omega arith) _ k.radius
      (pass_finite (rows - 1) k.taps row (omega arith) _ k.radius h r (omega arith) nr)
      c (omega arith) nc

-- ---- some pixel of a map

pub some-none : (n : ℕ) (test : ℕ → Bool) → some_under n test ≡ false → (i : ℕ) → i < n → test i ≡ false
unfolding some_under
some-none zero test h i less = absurd (not-suc-le-zero less)
some-none (suc n) test h i less =
    let p = neither (some_under n test) (test n) h in
    below_more (λ j. test j ≡ false) n (λ j g. some-none n test p.0 j g) p.1 i (omega arith)

or_cases : (a b : Bool) → (a || b) ≡ true → (a ≡ true) ⊎ (b ≡ true)
or_cases true b h = inl refl
or_cases false b h = inr h

pub some_elim : {P : Type 0} (n : ℕ) (test : ℕ → Bool) → some_under n test ≡ true → ((i : ℕ) → i < n → test i ≡ true → P) → P
unfolding some_under
some_elim zero test h f = absurd (false≢true h)
some_elim (suc n) test h f =
    ⊎_elim (λ e. some_elim n test e (λ i less g. f i (omega arith) g)) (λ e. f n (omega arith) e) (or_cases (some_under n test) (test n) h)

pub somewhere-none : (rows cols : ℕ) (test : ℕ → ℕ → Bool) → somewhere rows cols test ≡ false
    → (r c : ℕ) → r < rows → c < cols → test r c ≡ false
unfolding somewhere
somewhere-none rows cols test h r c hr hc = some-none cols (test r) (some-none rows _ h r hr) c hc

pub somewhere_elim : {P : Type 0} (rows cols : ℕ) (test : ℕ → ℕ → Bool) → somewhere rows cols test ≡ true
    → ((r c : ℕ) → r < rows → c < cols → test r c ≡ true → P) → P
unfolding somewhere
somewhere_elim rows cols test h f = some_elim rows _ h (λ r hr g. some_elim cols (test r) g (λ c hc e. f r c hr hc e))

pub somewhere_at : (rows cols : ℕ) (test : ℕ → ℕ → Bool) (r c : ℕ) → r < rows → c < cols → test r c ≡ true → somewhere rows cols test ≡ true
somewhere_at rows cols test r c hr hc e = by_result (somewhere rows cols test) refl
  where
    by_result : (t : Bool) → somewhere rows cols test ≡ t → t ≡ true
    by_result true g = refl
    by_result false g = sym (somewhere-none rows cols test g r c hr hc) ∙ e

-- ---- near

pub near-is : (d row col r c : ℕ) → near d row col r c ≡ true → (off row r ≤ d) × (off col c ≤ d)
unfolding near
near-is d row col r c h = let p = both (leb (off row r) d) (leb (off col c) d) h in (leb-true _ _ p.0, leb-true _ _ p.1)

pub is-near : (d row col r c : ℕ) → off row r ≤ d → off col c ≤ d → near d row col r c ≡ true
unfolding near
is-near d row col r c p q = rw (le-leb (off row r) d p, le-leb (off col c) d q)

first_so : (a b : Bool) → a ≡ true → (a && b) ≡ false → b ≡ false
first_so true b e h = h
first_so false b e h = absurd (false≢true e)

-- a pixel that is not reached has no lost raw pixel near
pub not-reached : (lost : ℕ → ℕ → Bool) (rows cols d row col : ℕ) → reached lost rows cols d row col ≡ false
    → (r c : ℕ) → r < rows → c < cols → off row r ≤ d → off col c ≤ d → lost r c ≡ false
unfolding reached
not-reached lost rows cols d row col h r c hr hc p q =
    first_so (near d row col r c) (lost r c) (is-near d row col r c p q) (somewhere-none rows cols _ h r c hr hc)

-- one that is reached has one
pub reached_elim : {P : Type 0} (lost : ℕ → ℕ → Bool) (rows cols d row col : ℕ) → reached lost rows cols d row col ≡ true
    → ((r c : ℕ) → r < rows → c < cols → off row r ≤ d → off col c ≤ d → lost r c ≡ true → P) → P
unfolding reached
reached_elim lost rows cols d row col h f =
    somewhere_elim rows cols _ h
    (λ r c hr hc e.
    let p = both (near d row col r c) (lost r c) e in
    let q = near-is d row col r c p.0 in
    f r c hr hc q.0 q.1 p.1)

-- and where a lost raw pixel is near, it is reached
pub reached_at : (lost : ℕ → ℕ → Bool) (rows cols d row col r c : ℕ) → r < rows → c < cols → off row r ≤ d → off col c ≤ d
    → lost r c ≡ true → reached lost rows cols d row col ≡ true
unfolding reached
reached_at lost rows cols d row col r c hr hc p q e =
    somewhere_at rows cols _ r c hr hc (rw (is-near d row col r c p q, e))

-- ---- the reach of lost raw pixels in a level, exactly

module _ (lost : ℕ → ℕ → Bool) (rows cols : ℕ) (a b : List Float) (h : LossyRaw lost rows cols a b) (k : Kernel) where
  -- a pixel out of the reach of all lost raw pixels keeps every bit; the reach may be taken too wide here
  pub level_stays : (d row col : ℕ) → k.radius ≤ d → row < rows → col < cols → reached lost rows cols d row col ≡ false
      → pixel_at (level_of a rows cols k) rows row col ≡ pixel_at (level_of b rows cols k) rows row col
  level_stays d row col wide hr hc none =
      level_pixel a rows cols k row col hr hc
      ∙ level_same rows cols k row col hr hc a b
      (λ r c ir ic nr nc. h.stays r c ir ic (not-reached lost rows cols d row col none r c ir ic (omega arith) (omega arith)))
      ∙ sym (level_pixel b rows cols k row col hr hc)

  -- one that a lost raw pixel reaches is not finite
  pub level_gone : (row col : ℕ) → row < rows → col < cols → reached lost rows cols k.radius row col ≡ true
      → finite (pixel_at (level_of b rows cols k) rows row col) ≡ false
  level_gone row col hr hc some =
      rw (level_pixel b rows cols k row col hr hc)
      (reached_elim lost rows cols k.radius row col some
      (λ r c ir ic nr nc gone. contrary (λ whole. level_finite rows cols k row col hr hc b whole r c ir ic nr nc) (h.gone r c ir ic gone)))

  -- So the level of a raw map that lost pixels is the whole map's level but for exactly the pixels at most its radius off a lost one, which are not finite.
  pub level_lossy : LossyRaw (reached lost rows cols k.radius) rows cols (level_of a rows cols k) (level_of b rows cols k)
  level_lossy = record { stays = λ row col hr hc none. level_stays k.radius row col (omega arith) hr hc none; gone = level_gone }
