-- What a feed handed over, read back from its bytes. Assumes nothing.
use Prim.Native.Nat.{ℕ, suc, ◌+◌, ◌-◌, ◌*◌, ◌/◌, ◌≤◌}
use native.Mathlib.Omega.{arith}
use mathlib.Core.Path.{◌≡◌, refl, sym, ap, ◌∙◌}
use mathlib.Core.Bool.{Bool, false}
use mathlib.Core.Logic.{inl, inr}
use mathlib.Core.List.{List, [], ◌∷◌, ◌++◌, append_assoc}
use lib.ListN.{length, length-append}
use Rattle.tables.specs.declared.Set.{Set}
use Rattle.tables.specs.declared.Thresholds.{Thresholds}
use Rattle.record.specs.declared.Record.{Record}
use Rattle.record.specs.Layout.{spot_width, record_bytes, bytes_of, Held}
use Rattle.record.proofs.LayoutLaws.{length-record_bytes, length-bytes_of}
use Rattle.record.proofs.RoundTrip.{record_from-record_bytes}
use Rattle.join.specs.Join.{records_from, records_of}
use Rattle.samples.specs.Level.{Maps}
use Rattle.detect.specs.Due.{due}
use Rattle.demands.specs.TwoMaps.{spared, keep, Lossy}
use Rattle.demands.proofs.TwoMaps.{two_maps}
use Rattle.demands.proofs.Held.{list_held}
use Rattle.demands.proofs.Listed.{list_is}
use Rattle.samples.specs.Four.{Four}
use Rattle.feed.specs.Feed.{opened}
use Rattle.fed.specs.Held.{map_of}
use Rattle.fed.specs.Run.{Call, state_after, bytes_after, levels_after, with}
use Rattle.fed.specs.Order.{columns_due, judged_of, in_order}
use Rattle.fed.proofs.Pairs.{In, in_stands}
use Rattle.fed.proofs.Columns.{columns-due}
use Rattle.fed.proofs.Promise.{m, columns_list, so_far, all-handed}

-- records behind k others are read back as they were
back : (rs : List Record) (front : List ℕ) (k : ℕ) → length front ≡ k * spot_width → ((r : Record) → In r rs → Held r) → records_from false (front ++ bytes_of rs) (length rs) k ≡ rs
unfolding records_from bytes_of In
back [] front k e h = refl
back (r ∷ rs) front k e h =
    let first = record_from-record_bytes front (bytes_of rs) r (h r (inl refl)) in
    let next : length (front ++ record_bytes r) ≡ suc k * spot_width = omega (arith, length-append front (record_bytes r), length-record_bytes r) in
    let later = back rs (front ++ record_bytes r) (suc k) next (λ t q. h t (inr q)) in
    rw (← e, first) (ap (λ (x : List Record). r ∷ x) (rw (append_assoc front (record_bytes r)) at later))

pub records_back : (rs : List Record) → ((r : Record) → In r rs → Held r) → records_of false (bytes_of rs) ≡ rs
records_back rs h =
    let n : length (bytes_of rs) / spot_width ≡ length rs = omega (arith, length-bytes_of rs) in
    rw n (back rs [] 0 (omega arith) h)

columns-held : (a : Maps) (n : ℕ) → a.frame.rows ≤ 4096 → a.frame.cols ≤ 4096 → n ≤ a.frame.cols - 8 → (r : Record) → In r (columns_due a n) → Held r
columns-held a n rows-most cols-most most r h = list_held a r rows-most cols-most ((list_is a r).1 (((columns_list a n most).exactly r).0 (in_stands (columns_due a n) r h)).admitted)

module _ (set : Set) (th : Thresholds) (rows cols octave : ℕ) (rows-most : rows ≤ 4096) (cols-most : cols ≤ 4096) where
  -- Theorem: the records in the bytes that any sequence of calls hands over are those of the judged columns, in the order of the columns.
  pub so_far_read : (ring : Four) (cs : List Call) (rest : Four) → let s = opened set th rows cols octave in
      records_of false (bytes_after s ring cs) ≡ columns_due (map_of s (with (levels_after s ring cs) rest)) (judged_of cols (state_after s ring cs).position)
  so_far_read ring cs rest =
      ap (records_of false) (so_far set th rows cols octave ring cs rest)
      ∙ records_back _ (columns-held _ _ rows-most cols-most (omega arith))

  -- Theorem 2, from the bytes alone: read back and put in order, a completed feed's records are the list of the map, bit for bit.
  pub completed_read : (ring : Four) (cs : List Call) → (state_after (opened set th rows cols octave) ring cs).position ≡ cols
      → in_order (records_of false (bytes_after (opened set th rows cols octave) ring cs)) ≡ due (m set th rows cols octave ring cs)
  completed_read ring cs done =
      ap (λ (b : List ℕ). in_order (records_of false b)) (all-handed set th rows cols octave ring cs done)
      ∙ ap in_order (records_back (columns_due (m set th rows cols octave ring cs) (cols - 8)) (columns-held _ (cols - 8) rows-most cols-most (omega arith)))
      ∙ columns-due (m set th rows cols octave ring cs)

  -- Theorem 4, from the bytes alone
  pub two_feeds_read : (lost : ℕ → ℕ → Bool) (ringA ringB : Four) (A B : List Call)
      → (state_after (opened set th rows cols octave) ringA A).position ≡ cols → (state_after (opened set th rows cols octave) ringB B).position ≡ cols
      → Lossy lost (m set th rows cols octave ringA A) (m set th rows cols octave ringB B)
      → in_order (records_of false (bytes_after (opened set th rows cols octave) ringB B)) ≡ keep (spared lost cols) (in_order (records_of false (bytes_after (opened set th rows cols octave) ringA A)))
  two_feeds_read lost ringA ringB A B doneA doneB h =
      completed_read ringB B doneB
      ∙ two_maps lost (record { rows = rows; cols = cols; octave = octave }) set th _ _ _ _ _ _ _ _ h
      ∙ ap (keep (spared lost cols)) (sym (completed_read ringA A doneA))
