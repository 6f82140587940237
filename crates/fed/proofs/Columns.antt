-- A map's spots by columns: what stands among them, in which order, and that put in order they are the map's list. Assumes nothing.
use Rattle.std.specs.Prelude.{Option, Some, None}
use Prim.Native.Nat.{ℕ, zero, suc, ◌+◌, ◌-◌, ◌*◌, ◌%◌, ◌≤◌, ◌<◌}
use native.Mathlib.Omega.{arith}
use native.Mathlib.Nat.{eq-or-lt_of_le, eq-zero-or-pos}
use mathlib.Core.Path.{◌≡◌, refl, sym, ap, ◌∙◌}
use mathlib.Core.Bool.{Bool, true, false}
use mathlib.Core.Logic.{◌⊎◌, ⊎_elim, inl, inr}
use mathlib.Core.List.{List}
use lib.Arith.{digits_lt, digits_mod}
use lib.Ieee.{Float}
use Rattle.record.specs.declared.Record.{Record}
use Rattle.pixel.specs.Verdict.{polarity_of}
use Rattle.tables.specs.declared.Set.{Set}
use Rattle.tables.specs.declared.Thresholds.{Thresholds}
use Rattle.pixel.specs.declared.Frame.{Frame}
use Rattle.samples.specs.Level.{Maps, maps_of}
use Rattle.demands.specs.TwoMaps.{spared, keep, Lossy}
use Rattle.demands.proofs.TwoMaps.{keep_append, pixel_two}
use Rattle.pixel.specs.Listed.{listed}
use Rattle.detect.specs.Due.{judge_of, pixel_due, due}
use Rattle.demands.specs.List.{StandsAt, Admitted, Before}
use Rattle.demands.proofs.Judge.{judged_admits, admits_judged, judged-key, judged-polarity}
use Rattle.demands.proofs.Listed.{verdict_only, OfPixel, pixel_only, pixel_all, pixel_key, list_is, list_rises}
use Rattle.fed.specs.Order.{column_due, columns_due, Sooner, in_order}
use Rattle.fed.proofs.Pairs.{In, in_cases, in_left, in_right, stands_in, in_stands, Pairs, pairs-none, pairs-append, pairs_at, pairs-map, rising-pairs}
use Rattle.fed.proofs.Sorting.{Apart, not_both, order_only, order_all, order_rises, rises_unique}

-- ---- what a verdict lists

verdict_in : (v : Option Record) (r : Record) → In r (listed v) → v ≡ Some r
verdict_in v r h = let s = in_stands (listed v) r h in verdict_only v s.place r s.there

verdict_pairs : (R : Record → Record → Type 0) (v : Option Record) → Pairs R (listed v)
unfolding listed Pairs In
verdict_pairs R (Some s) = (λ t h. absurd h, refl)
verdict_pairs R None = refl

module _ (m : Maps) where
  -- ---- one pixel

  pixel_in : (row col : ℕ) (r : Record) → In r (pixel_due m row col) → OfPixel m row col r
  pixel_in row col r h = pixel_only m row col r (in_stands (pixel_due m row col) r h)

  pixel_every : (row col : ℕ) (is_max : Bool) (r : Record) → judge_of m row col is_max ≡ Some r → In r (pixel_due m row col)
  pixel_every row col is_max r h = stands_in (pixel_all m row col is_max r h)

  -- the remainder of its key by cols is its column
  pixel_col : (row col : ℕ) (r : Record) → col < m.frame.cols → OfPixel m row col r → r.key % m.frame.cols ≡ col
  pixel_col row col r on p = rw (pixel_key m row col r p) (digits_mod row on)

  abbrev Soon : Record → Record → Type 0
  Soon = Sooner m.frame.cols

  pixel_pairs : (row col : ℕ) → Pairs Soon (pixel_due m row col)
  unfolding pixel_due polarity_of
  pixel_pairs row col =
      pairs-append Soon (listed (judge_of m row col false)) (listed (judge_of m row col true)) (verdict_pairs Soon _) (verdict_pairs Soon _)
      (λ r t a b.
      let low = verdict_in (judge_of m row col false) r a in
      let high = verdict_in (judge_of m row col true) t b in
      let same : r.key ≡ t.key = judged-key m row col false r low ∙ sym (judged-key m row col true t high) in
      inr (ap (λ (k : ℕ). k % m.frame.cols) same, inr (same, judged-polarity m row col false r low, judged-polarity m row col true t high)))

  -- ---- the first n judged pixels of a column

  pub record OfColumn (col n : ℕ) (r : Record) : Type 0 where
    pub number : ℕ
    pub below : number < n
    pub pixel : OfPixel m (number + 4) col r

  column_only : (col n : ℕ) (r : Record) → In r (column_due m col n) → OfColumn col n r
  unfolding column_due In
  column_only col zero r h = absurd h
  column_only col (suc n) r h =
      ⊎_elim (λ k. let p = column_only col n r k in record { number = p.number; below = omega arith; pixel = p.pixel })
      (λ k. record { number = n; below = omega arith; pixel = pixel_in (n + 4) col r k })
      (in_cases r (column_due m col n) (pixel_due m (n + 4) col) h)

  column_all : (col n k : ℕ) (is_max : Bool) (r : Record) → k < n → judge_of m (k + 4) col is_max ≡ Some r → In r (column_due m col n)
  unfolding column_due
  column_all col zero k is_max r p h = let z : ⊥ = omega arith in absurd z
  column_all col (suc n) k is_max r p h =
      let last : k ≤ n = omega arith in
      ⊎_elim (λ e. in_right r (column_due m col n) (pixel_due m (n + 4) col) (pixel_every (n + 4) col is_max r (rw e at h)))
      (λ q. in_left r (column_due m col n) (pixel_due m (n + 4) col) (column_all col n k is_max r q h))
      (eq-or-lt_of_le last)

  column_pairs : (col n : ℕ) → col < m.frame.cols → Pairs Soon (column_due m col n)
  unfolding column_due
  column_pairs col zero on = pairs-none Soon
  column_pairs col (suc n) on =
      pairs-append Soon (column_due m col n) (pixel_due m (n + 4) col) (column_pairs col n on) (pixel_pairs (n + 4) col)
      (λ r t a b.
      let p = column_only col n r a in
      let q = pixel_in (n + 4) col t b in
      let first = pixel_key m (p.number + 4) col r p.pixel in
      let second = pixel_key m (n + 4) col t q in
      let less : (p.number + 4) * m.frame.cols + col < (n + 4) * m.frame.cols = digits_lt (omega arith) on in
      inr (pixel_col (p.number + 4) col r on p.pixel ∙ sym (pixel_col (n + 4) col t on q), inl (rw (first, second) (omega arith))))

  -- ---- the first n judged columns

  pub record OfColumns (n : ℕ) (r : Record) : Type 0 where
    pub number : ℕ
    pub below : number < n
    pub of_column : OfColumn (number + 4) (m.frame.rows - 8) r

  -- what the first n judged columns list comes from one of their judged pixels
  pub columns-only : (n : ℕ) (r : Record) → In r (columns_due m n) → OfColumns n r
  unfolding columns_due In
  columns-only zero r h = absurd h
  columns-only (suc n) r h =
      ⊎_elim (λ k. let p = columns-only n r k in record { number = p.number; below = omega arith; of_column = p.of_column })
      (λ k. record { number = n; below = omega arith; of_column = column_only (n + 4) (m.frame.rows - 8) r k })
      (in_cases r (columns_due m n) (column_due m (n + 4) (m.frame.rows - 8)) h)

  columns_column : (n k : ℕ) (r : Record) → k < n → In r (column_due m (k + 4) (m.frame.rows - 8)) → In r (columns_due m n)
  unfolding columns_due
  columns_column zero k r p h = let z : ⊥ = omega arith in absurd z
  columns_column (suc n) k r p h =
      let last : k ≤ n = omega arith in
      ⊎_elim (λ e. in_right r (columns_due m n) (column_due m (n + 4) (m.frame.rows - 8)) (rw e at h))
      (λ q. in_left r (columns_due m n) (column_due m (n + 4) (m.frame.rows - 8)) (columns_column n k r q h))
      (eq-or-lt_of_le last)

  -- and what one of their judged pixels lists stands among it
  pub columns-all : (n : ℕ) (r : Record) → n ≤ m.frame.cols - 8 → (a : Admitted m r) → a.col < n + 4 → In r (columns_due m n)
  columns-all n r most a early =
      let row_is : a.row - 4 + 4 ≡ a.row = omega arith in
      let col-is : a.col - 4 + 4 ≡ a.col = omega arith in
      columns_column n (a.col - 4) r (omega arith)
      (column_all (a.col - 4 + 4) (m.frame.rows - 8) (a.row - 4) a.is_max r (omega arith) (rw (row_is, col-is) (admits_judged m a.row a.col a.is_max r a.rules)))

  -- They stand by columns, in each by rising row, at one pixel the minimum first.
  pub columns-pairs : (n : ℕ) → n ≤ m.frame.cols - 8 → Pairs Soon (columns_due m n)
  unfolding columns_due
  columns-pairs zero most = pairs-none Soon
  columns-pairs (suc n) most =
      pairs-append Soon (columns_due m n) (column_due m (n + 4) (m.frame.rows - 8)) (columns-pairs n (omega arith)) (column_pairs (n + 4) (m.frame.rows - 8) (omega arith))
      (λ r t a b.
      let p = columns-only n r a in
      let q = column_only (n + 4) (m.frame.rows - 8) t b in
      let first = pixel_col (p.of_column.number + 4) (p.number + 4) r (omega arith) p.of_column.pixel in
      let second = pixel_col (q.number + 4) (n + 4) t (omega arith) q.pixel in
      inl (rw (first, second) (omega arith)))

  -- a record in that order comes before the other or behind it in the order of the keys
  sooner_apart : (r t : Record) → Soon r t → Apart r t
  sooner_apart r t (inr e) = inr_left e.1 where
    inr_left : Before r t → Apart r t
    inr_left = inl
  sooner_apart r t (inl k) =
      ⊎_elim
      (λ e. ⊎_elim (λ f. absurd (same (omega arith))) (λ less. inl (inl (omega arith))) (eq-zero-or-pos (t.key - r.key)))
      (λ more. inr (inl (omega arith)))
      (eq-zero-or-pos (r.key - t.key))
    where
      same : r.key ≡ t.key → ⊥
      same e = let f : r.key % m.frame.cols ≡ t.key % m.frame.cols = ap (λ (x : ℕ). x % m.frame.cols) e in omega arith

  pub columns_apart : (n : ℕ) → n ≤ m.frame.cols - 8 → Pairs Apart (columns_due m n)
  columns_apart n most = pairs-map Soon Apart sooner_apart (columns_due m n) (columns-pairs n most)

  -- no record stands there twice
  apart_itself : (r : Record) → Apart r r → ⊥
  apart_itself r (inl a) = not_both r r a a
  apart_itself r (inr a) = not_both r r a a

  pub columns_once : (n : ℕ) → n ≤ m.frame.cols - 8 → (i j : ℕ) (r : Record) → StandsAt (columns_due m n) i r → StandsAt (columns_due m n) j r → i < j → ⊥
  columns_once n most i j r a b k = apart_itself r (pairs_at Apart (columns_due m n) (columns_apart n most) i j r r k a b)

  -- ---- the whole map

  -- the spots of all judged columns are those of the map's list
  all-due : (r : Record) → In r (columns_due m (m.frame.cols - 8)) → In r (due m)
  all-due r h =
      let p = columns-only (m.frame.cols - 8) r h in
      stands_in ((list_is m r).1 (record {
        row = p.of_column.number + 4;
        col = p.number + 4;
        is_max = p.of_column.pixel.is_max;
        judged = record { top = omega arith; bottom = omega arith; left = omega arith; right = omega arith };
        rules = judged_admits m (p.of_column.number + 4) (p.number + 4) p.of_column.pixel.is_max r p.of_column.pixel.verdict;
      }))

  due_all : (r : Record) → In r (due m) → In r (columns_due m (m.frame.cols - 8))
  due_all r h = let a = (list_is m r).0 (in_stands (due m) r h) in columns-all (m.frame.cols - 8) r (omega arith) a (omega arith)

  -- Put in order, the spots of all judged columns are the map's list, bit for bit.
  pub columns-due : in_order (columns_due m (m.frame.cols - 8)) ≡ due m
  columns-due =
      rises_unique (in_order (columns_due m (m.frame.cols - 8))) (due m)
      (order_rises (columns_due m (m.frame.cols - 8)) (columns_apart (m.frame.cols - 8) (omega arith)))
      (rising-pairs (due m) (list_rises m))
      (λ r h. all-due r (order_only r _ h))
      (λ r h. order_all r (columns_due m (m.frame.cols - 8)) (due_all r h))

-- ---- two maps, of which the second lost pixels

module _ (lost : ℕ → ℕ → Bool) (f : Frame) (s : Set) (th : Thresholds) (a0 a1 a2 a3 b0 b1 b2 b3 : List Float)
    (h : Lossy lost (maps_of a0 a1 a2 a3 f s th) (maps_of b0 b1 b2 b3 f s th)) where
  abbrev A : Maps
  A = maps_of a0 a1 a2 a3 f s th

  abbrev B : Maps
  B = maps_of b0 b1 b2 b3 f s th

  column_two : (col n : ℕ) → 4 ≤ col → col + 4 < f.cols → n ≤ f.rows - 8 → column_due B col n ≡ keep (spared lost f.cols) (column_due A col n)
  unfolding column_due keep
  column_two col zero left right k = refl
  column_two col (suc n) left right k =
      rw (keep_append, column_two col n left right (omega arith), pixel_two lost f s th a0 a1 a2 a3 b0 b1 b2 b3 h (n + 4) col (record { top = omega arith; bottom = omega arith; left = left; right = right }))

  -- Column by column, the second lists what the first does, less each spot with a lost pixel among its 21.
  pub columns_two : (n : ℕ) → n ≤ f.cols - 8 → columns_due B n ≡ keep (spared lost f.cols) (columns_due A n)
  unfolding columns_due keep
  columns_two zero k = refl
  columns_two (suc n) k = rw (keep_append, columns_two n (omega arith), column_two (n + 4) (f.rows - 8) (omega arith) (omega arith) (omega arith))
