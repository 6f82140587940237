-- What the customer is owed of a feed: its whole list, what it has listed when it stops, and two feeds of which the second lost pixels. Assumes nothing.
use Rattle.std.specs.Prelude.{Result, Ok, Err, ⊤}
use Prim.Native.Nat.{ℕ, ◌+◌, ◌-◌, ◌*◌, ◌≤◌, ◌<◌}
use native.Mathlib.Omega.{arith}
use native.Mathlib.Nat.{zero-mul, mul_comm, not-suc-le-zero}
use mathlib.Core.Path.{◌≡◌, refl, sym, ap, ◌∙◌}
use mathlib.Core.Bool.{Bool}
use mathlib.Core.Logic.{◌↔◌}
use mathlib.Core.List.{List, [], append-nil}
use lib.ListN.{length}
use lib.Ieee.{Float}
use borrow.Author.Tests.{eq-eqb}
use Rattle.tables.specs.declared.Set.{Set}
use Rattle.tables.specs.declared.Refusal.{Refusal}
use Rattle.tables.specs.declared.Thresholds.{Thresholds}
use Rattle.tables.specs.Refusal.{unless, first_of, sides_check, octave_check, thresholds_check, set_check}
use Rattle.tables.proofs.RefusalLaws.{unless-fine}
use Rattle.record.specs.declared.Record.{Record}
use Rattle.record.specs.Layout.{bytes_of}
use Rattle.pixel.specs.declared.Frame.{Frame}
use Rattle.samples.specs.Level.{Maps, maps_of}
use Rattle.detect.specs.Due.{due}
use Rattle.checks.specs.Checks.{detect_checks}
use Rattle.detect.specs.Detect.{detect_of, detected}
use Rattle.demands.specs.List.{StandsAt, Stands, Admitted}
use Rattle.demands.specs.TwoMaps.{spared, keep, Lossy}
use Rattle.demands.proofs.Judge.{judged_admits}
use Rattle.demands.proofs.TwoMaps.{two_maps}
use Rattle.ring.specs.declared.State.{State}
use Rattle.samples.specs.Four.{Four, four_of}
use Rattle.feed.specs.declared.Unstarted.{Unstarted}
use Rattle.feed.specs.Feed.{After, after, start_checks, started_by, start_of, opened, column_of}
use Rattle.fed.specs.Held.{map_of, Held}
use Rattle.fed.specs.Run.{Call, state_after, bytes_after, levels_after, with}
use Rattle.fed.specs.Order.{columns_due, judged_of, in_order}
use Rattle.fed.proofs.Pairs.{in_stands, stands_in}
use Rattle.fed.proofs.Columns.{columns-only, columns-all, columns_once, columns-due, columns_two}
use Rattle.fed.proofs.RunLaws.{FeedsAll, run_bytes, level_follows, level_long}

-- ---- one value for each call

-- Two answers of start that the promise allows are equal, the state that they hold, or that stands beside a refusal, too.
pub start-only-one : (set : Set) (th : Thresholds) (rows cols octave n0 n1 n2 n3 : ℕ) (r r' : Result State Unstarted)
    → r ≡ start_of set th rows cols octave n0 n1 n2 n3 → r' ≡ start_of set th rows cols octave n0 n1 n2 n3 → r ≡ r'
start-only-one set th rows cols octave n0 n1 n2 n3 r r' p q = p ∙ sym q

-- Two answers of a column that the promise allows are equal, with the state, the ring and the output after them.
pub column_only-one : (s : State) (given ring : Four) (out : List ℕ) (r r' : Result ℕ Refusal) (t t' : State) (g g' : Four) (o o' : List ℕ)
    → after r t g o ≡ column_of s given ring out → after r' t' g' o' ≡ column_of s given ring out → (r ≡ r') × (t ≡ t') × (g ≡ g') × (o ≡ o')
column_only-one s given ring out r r' t t' g g' o o' p q =
    let e = p ∙ sym q in
    (ap (λ (a : After). a.answer) e, ap (λ (a : After). a.state) e, ap (λ (a : After). a.ring) e, ap (λ (a : After). a.out) e)

-- ---- a run from the start

-- nothing is held before the first column
none-held : (m : Maps) (ring : Four) → Held m 0 ring
none-held m ring = record {
  l0 = λ k row late early inside. absurd (not-suc-le-zero late);
  l1 = λ k row late early inside. absurd (not-suc-le-zero late);
  l2 = λ k row late early inside. absurd (not-suc-le-zero late);
  l3 = λ k row late early inside. absurd (not-suc-le-zero late);
}

-- r is admitted at a judged pixel of one of the first k judged columns, cols 4 to k + 3
pub record Early (m : Maps) (k : ℕ) (r : Record) : Type 0 where
  pub admitted : Admitted m r
  pub early : admitted.col < k + 4

-- the list rs has exactly the spots of the first k judged columns of the map m, each once
pub record Lists (m : Maps) (k : ℕ) (rs : List Record) : Type 0 where
  pub exactly : (r : Record) → Stands rs r ↔ Early m k r
  pub once : (i j : ℕ) (r : Record) → StandsAt rs i r → StandsAt rs j r → i < j → ⊥

column_early : (m : Maps) (k : ℕ) → k ≤ m.frame.cols - 8 → (r : Record) → Stands (columns_due m k) r → Early m k r
column_early m k most r h =
    let p = columns-only m k r (stands_in h) in
    record {
      admitted = record {
        row = p.of_column.number + 4;
        col = p.number + 4;
        is_max = p.of_column.pixel.is_max;
        judged = record { top = omega arith; bottom = omega arith; left = omega arith; right = omega arith };
        rules = judged_admits m (p.of_column.number + 4) (p.number + 4) p.of_column.pixel.is_max r p.of_column.pixel.verdict;
      };
      early = omega arith;
    }

pub columns_list : (m : Maps) (k : ℕ) → k ≤ m.frame.cols - 8 → Lists m k (columns_due m k)
columns_list m k most = record {
  exactly = λ r. (column_early m k most r, λ e. in_stands (columns_due m k) r (columns-all m k r most e.admitted e.early));
  once = columns_once m k most;
}

module _ (set : Set) (th : Thresholds) (rows cols octave : ℕ) (ring : Four) (cs : List Call) where
  abbrev s : State
  s = opened set th rows cols octave

  abbrev taken : ℕ
  taken = (state_after s ring cs).position

  abbrev levels : Four
  levels = levels_after s ring cs

  follows : (rest : Four) → FeedsAll (with levels rest) s ring cs
  follows rest = record {
    l0 = level_follows (λ f. f.l0) (λ r g h. h.l0) s ring cs [] rest.l0 (sym (zero-mul rows));
    l1 = level_follows (λ f. f.l1) (λ r g h. h.l1) s ring cs [] rest.l1 (sym (zero-mul rows));
    l2 = level_follows (λ f. f.l2) (λ r g h. h.l2) s ring cs [] rest.l2 (sym (zero-mul rows));
    l3 = level_follows (λ f. f.l3) (λ r g h. h.l3) s ring cs [] rest.l3 (sym (zero-mul rows));
  }

  -- What any sequence of calls hands over are the records of the judged columns, whatever columns are yet to come.
  pub so_far : (rest : Four) → bytes_after s ring cs ≡ bytes_of (columns_due (map_of s (with levels rest)) (judged_of cols taken))
  unfolding columns_due bytes_of
  so_far rest = let none : judged_of cols 0 ≡ 0 = omega arith in rw none at (run_bytes (with levels rest) s ring cs (none-held _ ring) (follows rest))

  -- Stopped early it has listed exactly the spots of the judged columns, each once. With n columns taken, those at the cols 4 to n-3 are.
  pub record Stopped (rest : Four) : Type 0 where
    pub records : List Record
    pub handed_over : bytes_after s ring cs ≡ bytes_of records
    pub lists : Lists (map_of s (with levels rest)) (judged_of cols taken) records

  pub stopped : (rest : Four) → Stopped rest
  stopped rest = record {
    records = columns_due (map_of s (with levels rest)) (judged_of cols taken);
    handed_over = so_far rest;
    lists = columns_list (map_of s (with levels rest)) (judged_of cols taken) (omega arith);
  }

  -- the levels are as long as their taken columns
  pub levels_long : (length levels.l0 ≡ taken * rows) × (length levels.l1 ≡ taken * rows) × (length levels.l2 ≡ taken * rows) × (length levels.l3 ≡ taken * rows)
  levels_long = (
    omega (arith, level_long (λ f. f.l0) (λ r g h. h.l0) s ring cs, zero-mul rows),
    omega (arith, level_long (λ f. f.l1) (λ r g h. h.l1) s ring cs, zero-mul rows),
    omega (arith, level_long (λ f. f.l2) (λ r g h. h.l2) s ring cs, zero-mul rows),
    omega (arith, level_long (λ f. f.l3) (λ r g h. h.l3) s ring cs, zero-mul rows),
  )

  -- the map of the columns that were taken
  abbrev pub m : Maps
  m = map_of s levels

  -- a completed feed
  pub record Completed : Type 0 where
    pub records : List Record
    pub handed_over : bytes_after s ring cs ≡ bytes_of records
    pub lists : Lists m (cols - 8) records
    pub rows_in_order : in_order records ≡ due m

  nothing-more : with levels (four_of [] [] [] []) ≡ levels
  nothing-more = rw (append-nil levels.l0, append-nil levels.l1, append-nil levels.l2, append-nil levels.l3)

  -- a completed feed has handed over the records of all judged columns, by columns
  pub all-handed : taken ≡ cols → bytes_after s ring cs ≡ bytes_of (columns_due m (cols - 8))
  all-handed done =
      let all : judged_of cols taken ≡ cols - 8 = omega arith in
      so_far (four_of [] [] [] []) ∙ ap (λ (k : ℕ). bytes_of (columns_due (map_of s (with levels (four_of [] [] [] []))) k)) all
      ∙ ap (λ (l : Four). bytes_of (columns_due (map_of s l) (cols - 8))) nothing-more

  -- The records of a completed feed, put in order, are the list of the map, bit for bit.
  pub completed : taken ≡ cols → Completed
  completed done = record {
    records = columns_due m (cols - 8);
    handed_over = all-handed done;
    lists = columns_list m (cols - 8) (omega arith);
    rows_in_order = columns-due m;
  }

  -- Detection over the same levels passes its checks, and lists them.
  pub like_detection : (n0 n1 n2 n3 : ℕ) → first_of (start_checks set th rows cols octave n0 n1 n2 n3) ≡ Ok tt → taken ≡ cols → (out : List ℕ)
      → detect_of set th rows cols octave levels.l0 levels.l1 levels.l2 levels.l3 out ≡ detected (Ok tt) m out
  unfolding detect_of detect_checks start_checks first_of unless
  like_detection n0 n1 n2 n3 fine done out =
      let a = unless-fine (sides_check rows cols).holds _ _ fine in
      let b = unless-fine (octave_check octave).holds _ _ a.1 in
      let c = unless-fine (thresholds_check th).holds _ _ b.1 in
      let d = unless-fine (set_check set).holds _ _ c.1 in
      let long = levels_long in
      let area : taken * rows ≡ rows * cols = rw done (mul_comm cols rows) in
      rw (
        a.0,
        eq-eqb (length levels.l0) (rows * cols) (long.0 ∙ area),
        eq-eqb (length levels.l1) (rows * cols) (long.1 ∙ area),
        eq-eqb (length levels.l2) (rows * cols) (long.2 ∙ area),
        eq-eqb (length levels.l3) (rows * cols) (long.3 ∙ area),
        b.0,
        c.0,
        d.0,
      )

-- the state that start answers, where it does not refuse
pub started : (set : Set) (th : Thresholds) (rows cols octave n0 n1 n2 n3 : ℕ) (s : State) → start_of set th rows cols octave n0 n1 n2 n3 ≡ Ok s
    → (first_of (start_checks set th rows cols octave n0 n1 n2 n3) ≡ Ok tt) × (s ≡ opened set th rows cols octave)
unfolding start_of started_by
started set th rows cols octave n0 n1 n2 n3 s = go (first_of (start_checks set th rows cols octave n0 n1 n2 n3))
  where
    go : (w : Result ⊤ Refusal) → started_by w set th rows cols octave ≡ Ok s → (w ≡ Ok tt) × (s ≡ opened set th rows cols octave)
    go (Err r) e = (cc, cc)
    go (Ok _) e = (refl, cc)

-- ---- two feeds

-- Of two completed feeds, the second's levels those of the first but for lost pixels, the second lists what the first does, less each spot
-- with a lost pixel among its 21.
pub two_feeds : (lost : ℕ → ℕ → Bool) (set : Set) (th : Thresholds) (rows cols octave : ℕ) (ringA ringB : Four) (A B : List Call)
    → Lossy lost (m set th rows cols octave ringA A) (m set th rows cols octave ringB B)
    → (a : Completed set th rows cols octave ringA A) (b : Completed set th rows cols octave ringB B)
    → in_order b.records ≡ keep (spared lost cols) (in_order a.records)
two_feeds lost set th rows cols octave ringA ringB A B h a b =
    b.rows_in_order ∙ two_maps lost (record { rows = rows; cols = cols; octave = octave }) set th _ _ _ _ _ _ _ _ h ∙ rw a.rows_in_order

-- Of two feeds stopped anywhere, both with k judged columns, the second lists in its own order what the first does, less each spot with a lost pixel among its 21.
pub two_stopped : (lost : ℕ → ℕ → Bool) (f : Frame) (set : Set) (th : Thresholds) (a0 a1 a2 a3 b0 b1 b2 b3 : List Float) → let A = maps_of a0 a1 a2 a3 f set th in let B = maps_of b0 b1 b2 b3 f set th in
    Lossy lost A B → (k : ℕ) → k ≤ f.cols - 8 → columns_due B k ≡ keep (spared lost f.cols) (columns_due A k)
two_stopped = columns_two
