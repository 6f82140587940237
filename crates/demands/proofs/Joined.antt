-- Detection's output, as written, is accepted by the join with the same rows and cols, whatever the map. Assumes nothing.
use Rattle.std.specs.Prelude.{Ok}
use Prim.Native.Nat.{ℕ, zero, suc, ◌+◌, ◌*◌, ◌≤◌, ◌<◌}
use native.Mathlib.Omega.{arith}
use mathlib.Core.Path.{◌≡◌, refl, sym, ap, subst, ◌∙◌}
use mathlib.Core.Bool.{true}
use mathlib.Core.List.{List, [], ◌∷◌}
use lib.ListN.{length, take, drop}
use lib.Seq.{take-take}
use lib.Ieee.{Float}
use Rattle.tables.specs.declared.Set.{Set}
use Rattle.tables.specs.declared.Thresholds.{Thresholds}
use Rattle.tables.specs.Set.{good}
use Rattle.record.specs.declared.Record.{Record}
use Rattle.record.specs.Layout.{spot_width, record_at, laid, written}
use Rattle.record.specs.Readable.{readable}
use Rattle.record.proofs.LayoutLaws.{length-written, laid-first}
use Rattle.record.proofs.RoundTrip.{record_at-laid}
use Rattle.record.proofs.Converse.{same-bytes-same-record}
use Rattle.samples.specs.Level.{Maps, maps_of}
use Rattle.detect.specs.Due.{due}
use Rattle.detect.specs.Detect.{Outcome, detect_of}
use Rattle.detect.proofs.RefusalsLaws.{found_passed}
use Rattle.join.proofs.TakenLaws.{Taken, taken_count, taken_records, taken_fine, taken_joined}
use Rattle.demands.specs.List.{StandsAt}
use Rattle.demands.specs.Joined.{Joins}
use Rattle.demands.proofs.Accepted.{join_accepts}
use Rattle.demands.proofs.Answers.{answered}
use Rattle.demands.proofs.Held.{list_held}
use Rattle.demands.proofs.Places.{stands-there}

-- ---- records read from the front of a buffer

-- the bytes of a record that lies in the front
own-bytes : (at n : ℕ) (b : List ℕ) → at + spot_width ≤ n → take spot_width (drop at (take n b)) ≡ take spot_width (drop at b)
own-bytes zero n b h = take-take spot_width n b (omega arith)
own-bytes (suc at) zero b h = let z : ⊥ = omega arith in absurd z
own-bytes (suc at) (suc n) [] h = refl
own-bytes (suc at) (suc n) (x ∷ b) h = own-bytes at n b (omega arith)

-- ---- records laid in a buffer

module _ (m : Maps) (out : List ℕ) (rows-most : m.frame.rows ≤ 4096) (cols-most : m.frame.cols ≤ 4096) where
  -- how many are written
  abbrev count : ℕ
  count = written (due m) out

  -- their bytes
  abbrev bytes : List ℕ
  bytes = take (count * spot_width) (laid (due m) out)

  length-bytes : length bytes ≡ count * spot_width
  length-bytes = ap length (laid-first (due m) out) ∙ length-written (due m) out

  -- each is read back as it was listed
  read_back : (i : ℕ) → i < count → StandsAt (due m) i (record_at bytes i)
  read_back i h =
      let d : Record = record_at bytes i in
      let there = stands-there (due m) i d (omega arith) in
      let held = list_held m _ rows-most cols-most (record { place = i; there = there }) in
      let read = same-bytes-same-record (take (count * spot_width) (laid (due m) out)) (laid (due m) out) (i * spot_width) (i * spot_width) (own-bytes (i * spot_width) (count * spot_width) (laid (due m) out) (omega arith)) ∙ record_at-laid (due m) out i d h held in
      subst (StandsAt (due m) i) (sym read) there

  read_readable : (i : ℕ) → i < count → readable m.frame.rows m.frame.cols (record_at bytes i) ≡ true
  read_readable i h = join_accepts m _ (record { place = i; there = read_back i h })

  -- so the join takes them
  taken : Taken m.frame.rows m.frame.cols count bytes
  taken = record { rows-most = rows-most; cols-most = cols-most; long = length-bytes; fair = read_readable }

  joins : Joins m.frame.rows m.frame.cols (due m) count bytes
  joins = record {
    whole = omega (arith, length-bytes);
    count-is = taken_count _ _ count bytes taken;
    as_found = read_back;
    each-readable = read_readable;
    not_records = λ s room i h. taken_records _ _ count bytes taken s room i h;
    fine = λ s room is-good h. taken_fine _ _ count bytes taken s room is-good (omega arith);
    answer = λ s out' is-good h. taken_joined _ _ count bytes taken s out' is-good (omega arith);
  }

-- ---- a call

module _ (s : Set) (th : Thresholds) (rows cols octave : ℕ) (l0 l1 l2 l3 : List Float) (out : List ℕ) where
  -- what the call lists
  abbrev found : List Record
  found = due (maps_of l0 l1 l2 l3 (record { rows = rows; cols = cols; octave = octave }) s th)

  -- what it answers and leaves
  abbrev after : Outcome
  after = detect_of s th rows cols octave l0 l1 l2 l3 out

  -- The records that a call of detection wrote are accepted by the join with the same rows and cols: there is no refusal 5, and with a good set and room for the sized records their count is answered.
  pub output_joined : (n : ℕ) → after.answer ≡ Ok n → Joins rows cols found (written found out) (take (written found out * spot_width) after.buffer)
  output_joined n h =
      let sides = (found_passed s th rows cols octave l0 l1 l2 l3 out n h).sized in
      let m : Maps = maps_of l0 l1 l2 l3 (record { rows = rows; cols = cols; octave = octave }) s th in
      let wrote : after.buffer ≡ laid found out = unfold detect_of in ap (λ (o : Outcome). o.buffer) (answered _ m out n h) in
      subst (λ (b : List ℕ). Joins rows cols found (written found out) (take (written found out * spot_width) b)) (sym wrote)
      (joins m out sides.rows-most sides.cols-most)
