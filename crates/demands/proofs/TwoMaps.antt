-- Demand 3: the list of a map that lost pixels is the whole map's, less the spots with a lost pixel among their 21. Assumes nothing.
use Rattle.std.specs.Prelude.{Option, Some, None}
use Prim.Native.Nat.{ℕ, zero, suc, ◌+◌, ◌-◌, ◌*◌, ◌/◌, ◌%◌, ◌≤◌, ◌<◌}
use native.Mathlib.Omega.{arith}
use mathlib.Core.Path.{◌≡◌, refl, sym, ap, ◌∙◌}
use mathlib.Core.Bool.{Bool, true, false, cond, true≢false}
use mathlib.Core.Logic.{◌↔◌}
use mathlib.Core.List.{List, [], ◌∷◌, ◌++◌}
use lib.Arith.{digits_div, digits_mod}
use lib.Ieee.{Float}
use Rattle.tables.specs.declared.Set.{Set}
use Rattle.tables.specs.declared.Thresholds.{Thresholds}
use Rattle.record.specs.declared.Record.{Record}
use Rattle.pixel.specs.declared.Frame.{Frame}
use Rattle.pixel.specs.Verdict.{whole_of}
use Rattle.samples.specs.Level.{Maps, maps_of, nine_at}
use Rattle.pixel.specs.Listed.{listed}
use Rattle.detect.specs.Due.{judge_of, pixel_due, row_due, rows_due, due}
use Rattle.demands.specs.List.{Judged, AdmitsAt}
use Rattle.demands.specs.TwoMaps.{of21, clear, spared, keep, Same, Lossy}
use Rattle.float.proofs.Bools.{contrary, excluded}
use Rattle.demands.proofs.Samples.{nine_finite, nine_same}
use Rattle.demands.proofs.Judge.{judged_admits, admits_judged, judged-key, judged-nothing}
use Rattle.demands.proofs.Ring.{near_both}
use Rattle.demands.proofs.Clear.{clear-is}

-- ---- lists

cond-append : (t : Bool) (r : Record) (xs ys : List Record) → cond t (r ∷ xs) xs ++ ys ≡ cond t (r ∷ (xs ++ ys)) (xs ++ ys)
cond-append true r xs ys = refl
cond-append false r xs ys = refl

pub keep_append : (test : Record → Bool) (xs ys : List Record) → keep test (xs ++ ys) ≡ keep test xs ++ keep test ys
unfolding keep
keep_append test [] ys = refl
keep_append test (r ∷ xs) ys = rw (keep_append test xs ys) (sym (cond-append (test r) r (keep test xs) (keep test ys)))

-- what a verdict lists is kept whole or not at all, where the test is t at its record
keep-listed : (test : Record → Bool) (t : Bool) (v : Option Record) → ((r : Record) → v ≡ Some r → test r ≡ t) → keep test (listed v) ≡ cond t (listed v) []
unfolding keep listed
keep-listed test t (Some r) h = rw (h r refl)
keep-listed test true None h = refl
keep-listed test false None h = refl

module _ (lost : ℕ → ℕ → Bool) (f : Frame) (s : Set) (th : Thresholds) (a0 a1 a2 a3 b0 b1 b2 b3 : List Float)
    (h : Lossy lost (maps_of a0 a1 a2 a3 f s th) (maps_of b0 b1 b2 b3 f s th)) where
  abbrev A : Maps
  A = maps_of a0 a1 a2 a3 f s th

  abbrev B : Maps
  B = maps_of b0 b1 b2 b3 f s th

  -- ---- one pixel

  module _ (row col : ℕ) (inside : Judged f row col) where
    judged_alike : ((r c : ℕ) → of21 row col r c ≡ true → lost r c ≡ false) → (is_max : Bool) → judge_of B row col is_max ≡ judge_of A row col is_max
    unfolding judge_of
    judged_alike none is_max =
        let same : (r c : ℕ) → of21 row col r c ≡ true → Same A B r c =
        (λ r c on. let near = near_both row col r c on in h.stays r c (omega arith) (omega arith) (none r c on)) in
        rw (nine_same f s th a0 a1 a2 a3 b0 b1 b2 b3 row col (omega arith) (omega arith) same)

    -- A lost pixel outside a spot's 21 changes nothing for it: where none of the 21 is lost, the rules are met on the second map exactly where they are on the first, with the same record.
    pub outside_changes_nothing : ((r c : ℕ) → of21 row col r c ≡ true → lost r c ≡ false)
        → (is_max : Bool) (r : Record) → AdmitsAt B row col is_max r ↔ AdmitsAt A row col is_max r
    outside_changes_nothing none is_max r =
        let same = judged_alike none is_max in (
          λ b. judged_admits A row col is_max r (sym same ∙ admits_judged B row col is_max r b),
          λ a. judged_admits B row col is_max r (same ∙ admits_judged A row col is_max r a),
        )

    not_lost : whole_of (nine_at B row col) ≡ true → (r c : ℕ) → of21 row col r c ≡ true → lost r c ≡ false
    not_lost whole r c on =
        let near = near_both row col r c on in
        let there = nine_finite B row col (omega arith) (omega arith) whole r c on in
        excluded (λ gone. h.gone r c (omega arith) (omega arith) gone) there

    judged-none : clear lost row col ≡ false → (is_max : Bool) → judge_of B row col is_max ≡ None
    judged-none t is_max =
        judged-nothing B row col is_max
        (contrary (λ whole. (clear-is lost row col).1 (not_lost whole)) t)

    -- A lost pixel among a spot's 21 strikes it: on the second map no record meets the rules there.
    pub inside_strikes : (r c : ℕ) → of21 row col r c ≡ true → lost r c ≡ true → (is_max : Bool) (t : Record) → AdmitsAt B row col is_max t → ⊥
    inside_strikes r c on gone is_max t b = true≢false (sym gone ∙ not_lost b.samples_finite r c on)

    spared-here : (r : Record) → r.key ≡ row * f.cols + col → spared lost f.cols r ≡ clear lost row col
    unfolding spared
    spared-here r e =
        let on : col < f.cols = omega arith in
        let row_is : r.key / f.cols ≡ row = ap (λ (k : ℕ). k / f.cols) e ∙ digits_div row on in
        let col-is : r.key % f.cols ≡ col = ap (λ (k : ℕ). k % f.cols) e ∙ digits_mod row on in
        ap (λ (i : ℕ). clear lost i (r.key % f.cols)) row_is ∙ ap (clear lost row) col-is

    keep-judged : (is_max : Bool) → keep (spared lost f.cols) (listed (judge_of A row col is_max)) ≡ cond (clear lost row col) (listed (judge_of A row col is_max)) []
    keep-judged is_max =
        keep-listed (spared lost f.cols) (clear lost row col) (judge_of A row col is_max) (λ r is. spared-here r (judged-key A row col is_max r is))

    by-clear : (t : Bool) → clear lost row col ≡ t
        → listed (judge_of B row col false) ++ listed (judge_of B row col true) ≡ cond t (listed (judge_of A row col false)) [] ++ cond t (listed (judge_of A row col true)) []
    unfolding listed
    by-clear true e = let none = (clear-is lost row col).0 e in rw (judged_alike none false, judged_alike none true)
    by-clear false e = rw (judged-none e false, judged-none e true)

    pub pixel_two : pixel_due B row col ≡ keep (spared lost f.cols) (pixel_due A row col)
    unfolding pixel_due
    pixel_two = rw (keep_append, keep-judged false, keep-judged true) (by-clear (clear lost row col) refl)

  -- ---- the list

  row_two : (row n : ℕ) → 4 ≤ row → row + 4 < f.rows → n ≤ f.cols - 8 → row_due B row n ≡ keep (spared lost f.cols) (row_due A row n)
  unfolding row_due keep
  row_two row zero top bottom k = refl
  row_two row (suc n) top bottom k =
      rw (keep_append, row_two row n top bottom (omega arith), pixel_two row (n + 4) (record { top = top; bottom = bottom; left = omega arith; right = omega arith }))

  rows_two : (n : ℕ) → n ≤ f.rows - 8 → rows_due B n ≡ keep (spared lost f.cols) (rows_due A n)
  unfolding rows_due keep
  rows_two zero k = refl
  rows_two (suc n) k = rw (keep_append, rows_two n (omega arith), row_two (n + 4) (f.cols - 8) (omega arith) (omega arith) (omega arith))

  -- The list of a map that lost pixels is the first map's, less each spot with a lost pixel among its 21: order and every bit of the rest are kept.
  pub two_maps : due B ≡ keep (spared lost f.cols) (due A)
  unfolding due
  two_maps = rows_two (f.rows - 8) (omega arith)
