-- Laws of records that are sized and numbered in place: each is read before its bytes are written. Assumes nothing.
use Prim.Native.Nat.{ℕ, zero, suc, ◌+◌, ◌*◌, ◌≤◌, ◌<◌}
use native.Mathlib.Numerals.{add-one}
use native.Mathlib.Omega.{arith}
use mathlib.Core.Path.{◌≡◌, refl, sym, ap, ◌∙◌}
use mathlib.Core.List.{List, ◌++◌, append-nil, append_assoc}
use lib.ListN.{length, take, drop, length-append, take-append-drop}
use lib.Seq.{sets, length-sets, sets-eq, drop-drop}
use Rattle.tables.specs.declared.Set.{Set}
use Rattle.record.specs.declared.Record.{Record}
use Rattle.record.specs.Layout.{spot_width, record_from}
use Rattle.record.proofs.Converse.{same-bytes-same-record}
use Rattle.words.specs.Words.{half_bytes}
use Rattle.sized.specs.Sized.{sized_bytes}
use Rattle.words.proofs.Stores.{sets-append}
use Rattle.words.proofs.Parts.{take-sets, drop-sets}
use Rattle.tile.specs.Numbered.{numbered_width, numbered, numbered_bytes, all_bytes, tile_bytes}
use Rattle.tile.specs.Tile.{records_in}
use Rattle.tile.proofs.NumberedLaws.{length-numbered, length-tile_bytes, tile_snoc}

-- ---- one record

-- the three parts of a record, stored one after the other
pub numbered_parts : {o1 o2 o3 : List ℕ} (s : Set) (i j : ℕ) (r : Record) (out : List ℕ) (to : ℕ) → o1 ≡ sets out to (half_bytes i) → o2 ≡ sets o1 (to + 2) (half_bytes j)
    → o3 ≡ sets o2 (to + 4) (sized_bytes s r) → o3 ≡ sets out to (numbered_bytes s (numbered i j r))
unfolding numbered_bytes
numbered_parts s i j r out to a b c =
    let e : to + length (half_bytes i) ≡ to + 2 = unfold half_bytes in refl in
    let f : to + 2 + length (half_bytes j) ≡ to + 4 = unfold half_bytes in omega arith in
    rw (c, b, a, ← f, ← e)
    (sym (sets-append (half_bytes i) (half_bytes j ++ sized_bytes s r) out to ∙ sets-append (half_bytes j) (sized_bytes s r) (sets out to (half_bytes i)) (to + length (half_bytes i))))

-- ---- all of them

length-records_in : (b : List ℕ) (at n : ℕ) → length (records_in b at n) ≡ n
unfolding records_in
length-records_in b at zero = refl
length-records_in b at (suc n) = rw (length-append, length-records_in b at n) (omega arith)

-- the first k of the n records are sized, and the others not yet overwritten
pub record Going (s : Set) (i j : ℕ) (out₀ out : List ℕ) (base n k : ℕ) : Type 0 where
  pub long : length out ≡ length out₀
  pub done : take (base + numbered_width * k) out ≡ take base out₀ ++ tile_bytes s i j (records_in out₀ (base + 16 * n) k)
  pub unread : drop (base + 16 * n + spot_width * k) out ≡ drop (base + 16 * n + spot_width * k) out₀

module _ (s : Set) (i j : ℕ) (out₀ : List ℕ) (base n : ℕ) where
  pub going_start : Going s i j out₀ out₀ base n 0
  unfolding records_in all_bytes
  going_start = let e : base + numbered_width * 0 ≡ base = omega arith in record { long = refl; done = rw (e, append-nil); unread = refl }

  -- the record that comes next is read as it stood
  pub reads_next : (out : List ℕ) (k : ℕ) → Going s i j out₀ out base n k
      → record_from out (base + 16 * n + spot_width * k) ≡ record_from out₀ (base + 16 * n + spot_width * k)
  reads_next out k g =
      same-bytes-same-record out out₀ (base + 16 * n + spot_width * k) (base + 16 * n + spot_width * k) (ap (take spot_width) g.unread)

  snoc : (k : ℕ) (r : Record) → r ≡ record_from out₀ (base + 16 * n + spot_width * k)
      → tile_bytes s i j (records_in out₀ (base + 16 * n) k) ++ numbered_bytes s (numbered i j r) ≡ tile_bytes s i j (records_in out₀ (base + 16 * n) (k + 1))
  unfolding records_in
  snoc k r e =
      ap (λ (x : Record). tile_bytes s i j (records_in out₀ (base + 16 * n) k) ++ numbered_bytes s (numbered i j x)) e
      ∙ sym (tile_snoc s i j (records_in out₀ (base + 16 * n) k) (record_from out₀ (base + 16 * n + spot_width * k)))
      ∙ ap (λ (x : ℕ). tile_bytes s i j (records_in out₀ (base + 16 * n) x)) (sym (add-one k))

  -- one record more
  pub going_next : (out out' : List ℕ) (k : ℕ) → k < n → base + numbered_width * n ≤ length out₀ → Going s i j out₀ out base n k
      → out' ≡ sets out (base + numbered_width * k) (numbered_bytes s (numbered i j (record_from out (base + 16 * n + spot_width * k))))
      → Going s i j out₀ out' base n (k + 1)
  going_next out out' k b room g e =
      let r : Record = record_from out (base + 16 * n + spot_width * k) in
      let v : List ℕ = numbered_bytes s (numbered i j r) in
      let size : length v ≡ numbered_width = length-numbered s (numbered i j r) in
      let same = reads_next out k g in
      let long = g.long in
      let next : base + numbered_width * (k + 1) ≡ base + numbered_width * k + length v = omega arith in
      let after : base + 16 * n + spot_width * (k + 1) ≡ base + 16 * n + spot_width * k + spot_width = omega arith in
      record {
        long = ap length e ∙ length-sets out (base + numbered_width * k) v ∙ long;
        done =
            ap (λ (x : ℕ). take x out') next ∙ ap (take (base + numbered_width * k + length v)) e ∙ take-sets out v (base + numbered_width * k) (omega arith)
            ∙ ap (λ (x : List ℕ). x ++ v) g.done ∙ append_assoc (take base out₀) (tile_bytes s i j (records_in out₀ (base + 16 * n) k)) v
            ∙ ap (λ (x : List ℕ). take base out₀ ++ x) (snoc k r same);
        unread =
            ap (λ (x : ℕ). drop x out') after ∙ ap (drop (base + 16 * n + spot_width * k + spot_width)) e
            ∙ drop-sets out v (base + numbered_width * k) (base + 16 * n + spot_width * k + spot_width) (omega arith) (omega arith)
            ∙ sym (drop-drop spot_width (base + 16 * n + spot_width * k) out) ∙ ap (drop spot_width) g.unread
            ∙ drop-drop spot_width (base + 16 * n + spot_width * k) out₀ ∙ ap (λ (x : ℕ). drop x out₀) (sym after);
      }

  -- after the last one the place holds all of them, and nothing else is changed
  pub going_end : (out : List ℕ) → base + numbered_width * n ≤ length out₀ → Going s i j out₀ out base n n
      → out ≡ sets out₀ base (tile_bytes s i j (records_in out₀ (base + 16 * n) n))
  going_end out room g =
      let v : List ℕ = tile_bytes s i j (records_in out₀ (base + 16 * n) n) in
      let size : length v ≡ n * numbered_width =
      length-tile_bytes s i j (records_in out₀ (base + 16 * n) n) ∙ ap (λ (x : ℕ). x * numbered_width) (length-records_in out₀ (base + 16 * n) n) in
      let e : base + 16 * n + spot_width * n ≡ base + numbered_width * n = omega arith in
      let f : base + length v ≡ base + numbered_width * n = omega arith in
      let rest : drop (base + numbered_width * n) out ≡ drop (base + numbered_width * n) out₀ = rw e at g.unread in
      sym (take-append-drop (base + numbered_width * n) out) ∙ ap (λ (x : List ℕ). x ++ drop (base + numbered_width * n) out) g.done
      ∙ ap (λ (x : List ℕ). take base out₀ ++ v ++ x) rest ∙ ap (λ (x : ℕ). take base out₀ ++ v ++ drop x out₀) (sym f) ∙ sym (sets-eq v out₀ base (omega arith))
