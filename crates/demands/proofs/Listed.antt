-- What stands in the list, and in which order. Assumes nothing.
use Rattle.std.specs.Prelude.{Option, Some, None}
use Prim.Native.Nat.{ℕ, zero, suc, ◌+◌, ◌-◌, ◌*◌, ◌≤◌, ◌<◌}
use native.Mathlib.Omega.{arith}
use native.Mathlib.Nat.{eq-or-lt_of_le}
use mathlib.Core.Path.{◌≡◌, refl, sym, ap, ◌∙◌, subst}
use mathlib.Core.Bool.{Bool, true, false}
use mathlib.Core.Logic.{◌↔◌, ⊎_elim, inl, inr}
use mathlib.Core.List.{List, []}
use lib.Arith.{digits_lt, digits_div, digits_mod}
use Rattle.record.specs.declared.Record.{Record}
use Rattle.pixel.specs.Verdict.{polarity_of}
use Rattle.samples.specs.Level.{Maps}
use Rattle.pixel.specs.Listed.{listed}
use Rattle.detect.specs.Due.{judge_of, pixel_due, row_due, rows_due, due}
use Rattle.pixel.proofs.ListedLaws.{listed-short}
use Rattle.demands.specs.List.{StandsAt, Stands, Judged, AdmitsAt, Admitted, Rising, Of, OnlyOne}
use Rattle.demands.proofs.Judge.{judged_admits, admits_judged, judged-key, judged-polarity}
use Rattle.demands.proofs.Places.{at_short, stands-left, stands-right, stands_cases, rising-append, rising_once}

-- ---- what a verdict lists

pub verdict_only : (v : Option Record) (i : ℕ) (r : Record) → StandsAt (listed v) i r → v ≡ Some r
unfolding listed StandsAt
verdict_only (Some s) zero r h = ap Some h
verdict_only (Some s) (suc i) r h = absurd h
verdict_only None i r h = absurd h

verdict_all : (v : Option Record) (r : Record) → v ≡ Some r → StandsAt (listed v) 0 r
unfolding listed StandsAt
verdict_all v r h = rw h refl

verdict_rising : (v : Option Record) → Rising (listed v)
verdict_rising v i j r t k a b =
    let short = listed-short v in
    let below = at_short (listed v) j t b in
    let z : ⊥ = omega arith in
    absurd z

nothing-rising : Rising []
unfolding StandsAt
nothing-rising i j r t k a b = absurd a

polarity-tells : (a b : Bool) → polarity_of a ≡ polarity_of b → a ≡ b
unfolding polarity_of
polarity-tells true true h = refl
polarity-tells true false h = cc
polarity-tells false true h = cc
polarity-tells false false h = refl

module _ (m : Maps) where
  -- ---- one pixel

  abbrev lows : ℕ → ℕ → List Record
  lows row col = listed (judge_of m row col false)

  abbrev highs : ℕ → ℕ → List Record
  highs row col = listed (judge_of m row col true)

  pub record OfPixel (row col : ℕ) (r : Record) : Type 0 where
    pub is_max : Bool
    pub verdict : judge_of m row col is_max ≡ Some r

  pub pixel_only : (row col : ℕ) (r : Record) → Stands (pixel_due m row col) r → OfPixel row col r
  unfolding pixel_due
  pixel_only row col r h =
      ⊎_elim (λ k. record { is_max = false; verdict = verdict_only (judge_of m row col false) k.place r k.there })
      (λ k. record { is_max = true; verdict = verdict_only (judge_of m row col true) k.place r k.there })
      (stands_cases (lows row col) (highs row col) r h)

  pub pixel_all : (row col : ℕ) (is_max : Bool) (r : Record) → judge_of m row col is_max ≡ Some r → Stands (pixel_due m row col) r
  unfolding pixel_due
  pixel_all row col false r h = stands-left (lows row col) (highs row col) r (record { place = 0; there = verdict_all _ r h })
  pixel_all row col true r h = stands-right (lows row col) (highs row col) r (record { place = 0; there = verdict_all _ r h })

  pixel_rising : (row col : ℕ) → Rising (pixel_due m row col)
  unfolding pixel_due polarity_of
  pixel_rising row col =
      rising-append (lows row col) (highs row col) (verdict_rising _) (verdict_rising _)
      (λ r t a b.
      let is-min = verdict_only (judge_of m row col false) a.place r a.there in
      let is-max = verdict_only (judge_of m row col true) b.place t b.there in
      inr (judged-key m row col false r is-min ∙ sym (judged-key m row col true t is-max), judged-polarity m row col false r is-min, judged-polarity m row col true t is-max))

  pub pixel_key : (row col : ℕ) (r : Record) → OfPixel row col r → r.key ≡ row * m.frame.cols + col
  pixel_key row col r p = judged-key m row col p.is_max r p.verdict

  -- ---- the first n judged pixels of a row

  record OfRow (row n : ℕ) (r : Record) : Type 0 where
    number : ℕ
    below : number < n
    pixel : OfPixel row (number + 4) r

  row-only : (row n : ℕ) (r : Record) → Stands (row_due m row n) r → OfRow row n r
  unfolding row_due StandsAt
  row-only row zero r h = absurd h.there
  row-only row (suc n) r h =
      ⊎_elim (λ k. let p = row-only row n r k in record { number = p.number; below = omega arith; pixel = p.pixel })
      (λ k. record { number = n; below = omega arith; pixel = pixel_only row (n + 4) r k })
      (stands_cases (row_due m row n) (pixel_due m row (n + 4)) r h)

  row-all : (row n k : ℕ) (is_max : Bool) (r : Record) → k < n → judge_of m row (k + 4) is_max ≡ Some r → Stands (row_due m row n) r
  unfolding row_due
  row-all row zero k is_max r p h = let z : ⊥ = omega arith in absurd z
  row-all row (suc n) k is_max r p h =
      let last : k ≤ n = omega arith in
      ⊎_elim (λ e. stands-right (row_due m row n) (pixel_due m row (n + 4)) r (pixel_all row (n + 4) is_max r (rw e at h)))
      (λ q. stands-left (row_due m row n) (pixel_due m row (n + 4)) r (row-all row n k is_max r q h))
      (eq-or-lt_of_le last)

  row-rising : (row n : ℕ) → Rising (row_due m row n)
  unfolding row_due
  row-rising row zero = nothing-rising
  row-rising row (suc n) =
      rising-append (row_due m row n) (pixel_due m row (n + 4)) (row-rising row n) (pixel_rising row (n + 4))
      (λ r t a b.
      let p = row-only row n r a in
      let first = pixel_key row (p.number + 4) r p.pixel in
      let second = pixel_key row (n + 4) t (pixel_only row (n + 4) t b) in
      inl (rw (first, second) (omega arith)))

  -- ---- the first n judged rows

  record OfRows (n : ℕ) (r : Record) : Type 0 where
    number : ℕ
    below : number < n
    of_row : OfRow (number + 4) (m.frame.cols - 8) r

  rows-only : (n : ℕ) (r : Record) → Stands (rows_due m n) r → OfRows n r
  unfolding rows_due StandsAt
  rows-only zero r h = absurd h.there
  rows-only (suc n) r h =
      ⊎_elim (λ k. let p = rows-only n r k in record { number = p.number; below = omega arith; of_row = p.of_row })
      (λ k. record { number = n; below = omega arith; of_row = row-only (n + 4) (m.frame.cols - 8) r k })
      (stands_cases (rows_due m n) (row_due m (n + 4) (m.frame.cols - 8)) r h)

  rows_all : (n k : ℕ) (r : Record) → k < n → Stands (row_due m (k + 4) (m.frame.cols - 8)) r → Stands (rows_due m n) r
  unfolding rows_due
  rows_all zero k r p h = let z : ⊥ = omega arith in absurd z
  rows_all (suc n) k r p h =
      let last : k ≤ n = omega arith in
      ⊎_elim (λ e. stands-right (rows_due m n) (row_due m (n + 4) (m.frame.cols - 8)) r (rw e at h))
      (λ q. stands-left (rows_due m n) (row_due m (n + 4) (m.frame.cols - 8)) r (rows_all n k r q h))
      (eq-or-lt_of_le last)

  rows-rising : (n : ℕ) → Rising (rows_due m n)
  unfolding rows_due
  rows-rising zero = nothing-rising
  rows-rising (suc n) =
      rising-append (rows_due m n) (row_due m (n + 4) (m.frame.cols - 8)) (rows-rising n) (row-rising (n + 4) (m.frame.cols - 8))
      (λ r t a b.
      let p = rows-only n r a in
      let q = row-only (n + 4) (m.frame.cols - 8) t b in
      let first = pixel_key (p.number + 4) (p.of_row.number + 4) r p.of_row.pixel in
      let second = pixel_key (n + 4) (q.number + 4) t q.pixel in
      let less : (p.number + 4) * m.frame.cols + (p.of_row.number + 4) < (n + 4) * m.frame.cols = digits_lt (omega arith) (omega arith) in
      inl (rw (first, second) (omega arith)))

  -- ---- the list

  due-only : (r : Record) → Stands (due m) r → Admitted m r
  unfolding due
  due-only r h =
      let p = rows-only (m.frame.rows - 8) r h in
      record {
        row = p.number + 4;
        col = p.of_row.number + 4;
        is_max = p.of_row.pixel.is_max;
        judged = record { top = omega arith; bottom = omega arith; left = omega arith; right = omega arith };
        rules = judged_admits m (p.number + 4) (p.of_row.number + 4) p.of_row.pixel.is_max r p.of_row.pixel.verdict;
      }

  due_all : (r : Record) → Admitted m r → Stands (due m) r
  unfolding due
  due_all r a =
      let row_is : a.row - 4 + 4 ≡ a.row = omega arith in
      let col-is : a.col - 4 + 4 ≡ a.col = omega arith in
      rows_all (m.frame.rows - 8) (a.row - 4) r (omega arith)
      (row-all (a.row - 4 + 4) (m.frame.cols - 8) (a.col - 4) a.is_max r (omega arith)
      (rw (row_is, col-is) (admits_judged m a.row a.col a.is_max r a.rules)))

  -- A record is in the list exactly when some judged pixel meets the rules at one of the polarities and this is its record.
  pub list_is : (r : Record) → Stands (due m) r ↔ Admitted m r
  list_is r = (due-only r, due_all r)

  -- The list is in order: keys rise, and at one key the minimum comes before the maximum.
  pub list_rises : Rising (due m)
  unfolding due
  list_rises = rows-rising (m.frame.rows - 8)

  -- No record stands in the list twice.
  pub list_once : (i j : ℕ) (r : Record) → StandsAt (due m) i r → StandsAt (due m) j r → i ≡ j
  list_once = rising_once (due m) list_rises

  -- The key of a record that meets the rules tells the pixel that it was found at, and its polarity byte the polarity.
  pub own_key : (row col : ℕ) (is_max : Bool) (r : Record) → Judged m.frame row col → AdmitsAt m row col is_max r
      → (r.key ≡ row * m.frame.cols + col) × Of m.frame.cols row col is_max r
  own_key row col is_max r inside h =
      let is = admits_judged m row col is_max r h in
      let key = judged-key m row col is_max r is in
      let on : col < m.frame.cols = omega arith in
      (key, record { row_is = rw key (digits_div row on); col-is = rw key (digits_mod row on); polarity-is = judged-polarity m row col is_max r is })

  -- A record of the list meets the rules at the pixel and polarity that it tells of.
  pub told : (row col : ℕ) (is_max : Bool) (t : Record) → Stands (due m) t → Of m.frame.cols row col is_max t → AdmitsAt m row col is_max t
  told row col is_max t h of =
      let a = due-only t h in
      let own = (own_key a.row a.col a.is_max t a.judged a.rules).1 in
      let row_is : a.row ≡ row = sym own.row_is ∙ of.row_is in
      let col-is : a.col ≡ col = sym own.col-is ∙ of.col-is in
      let polarity-is : a.is_max ≡ is_max = polarity-tells a.is_max is_max (sym own.polarity-is ∙ of.polarity-is) in
      judged_admits m row col is_max t (rw (row_is, col-is, polarity-is) at (admits_judged m a.row a.col a.is_max t a.rules))

  -- Each judged pixel that meets the rules at a polarity has exactly one record in the list, and that record's key is its own.
  pub exactly_one : (row col : ℕ) (is_max : Bool) (r : Record) → Judged m.frame row col → AdmitsAt m row col is_max r
      → OnlyOne (due m) m.frame.cols row col is_max r
  exactly_one row col is_max r inside h =
      let stands = due_all r (record { row = row; col = col; is_max = is_max; judged = inside; rules = h }) in
      let is-r = admits_judged m row col is_max r h in
      record {
        stands = stands;
        own = (own_key row col is_max r inside h).1;
        only = λ t j at_j of.
            let is-t = admits_judged m row col is_max t (told row col is_max t (record { place = j; there = at_j }) of) in
            let same : t ≡ r = cc in
            (same, list_once j stands.place r (subst (StandsAt (due m) j) same at_j) stands.there);
      }

  -- A pixel that meets the rules at a polarity with no record has no record in the list.
  pub none_else : (row col : ℕ) (is_max : Bool) → ((r : Record) → AdmitsAt m row col is_max r → ⊥)
      → (t : Record) → Stands (due m) t → Of m.frame.cols row col is_max t → ⊥
  none_else row col is_max none t stands of = none t (told row col is_max t stands of)
