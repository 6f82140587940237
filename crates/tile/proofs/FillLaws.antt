-- Laws of a tile's records in the output: laid at the end of their place, read back, and sized in place. Assumes nothing.
use Rattle.std.specs.Prelude.{Some, None}
use Prim.Native.Nat.{ℕ, zero, suc, ◌+◌, ◌-◌, ◌*◌, ◌/◌, ◌≤◌, ◌<◌}
use native.Mathlib.Omega.{arith}
use mathlib.Core.Path.{◌≡◌, refl, sym, ap, ◌∙◌}
use mathlib.Core.List.{List, [], ◌∷◌, ◌++◌, append_assoc}
use lib.ListN.{length, take, drop, get_or}
use lib.Seq.{sets, length-sets, sets-eq, take-suc, take_all, length-take-le}
use lib.Ieee.{Float}
use borrow.Author.Tests.{le-leb, lt-leb}
use Rattle.tables.specs.declared.Set.{Set}
use Rattle.tables.specs.declared.Thresholds.{Thresholds}
use Rattle.record.specs.declared.Record.{Record}
use Rattle.record.specs.Layout.{spot_width, record_from, record_bytes, bytes_of, Held}
use Rattle.record.specs.Readable.{readable}
use Rattle.record.proofs.LayoutLaws.{length-record_bytes, length-bytes_of}
use Rattle.record.proofs.RoundTrip.{record_from-append, record_from-record_bytes}
use Rattle.samples.specs.Level.{Maps, maps_of}
use Rattle.demands.specs.List.{StandsAt}
use Rattle.demands.proofs.Held.{list_held}
use Rattle.demands.proofs.Accepted.{join_accepts}
use Rattle.words.proofs.Parts.{sets_over}
use Rattle.sized.proofs.HomeLaws.{home_placed}
use Rattle.tile.specs.Numbered.{numbered_width, tile_bytes}
use Rattle.tile.specs.Tile.{Small, found_in, records_in, Stand, filling, fill_of, Fits}
use Rattle.tile.proofs.NumberedLaws.{length-tile_bytes}

-- ---- records read back

read_back : (rs : List Record) (rest : List ℕ) (k : ℕ) (d : Record) → k < length rs → ((k : ℕ) (r : Record) → StandsAt rs k r → Held r)
    → record_from (bytes_of rs ++ rest) (spot_width * k) ≡ get_or rs k d
unfolding bytes_of StandsAt
read_back [] rest k d h held = let z : ⊥ = omega arith in absurd z
read_back (r ∷ rs) rest zero d h held =
    ap (λ x. record_from x 0) (append_assoc (record_bytes r) (bytes_of rs) rest) ∙ record_from-record_bytes [] (bytes_of rs ++ rest) r (held 0 r refl)
read_back (r ∷ rs) rest (suc k) d h held =
    let e : spot_width * suc k ≡ length (record_bytes r) + spot_width * k = omega (arith, length-record_bytes r) in
    ap (λ x. record_from x (spot_width * suc k)) (append_assoc (record_bytes r) (bytes_of rs) rest) ∙ ap (record_from (record_bytes r ++ (bytes_of rs ++ rest))) e
    ∙ record_from-append (record_bytes r) (bytes_of rs ++ rest) (spot_width * k) ∙ read_back rs rest k d (omega arith) (λ n u s. held (suc n) u s)

module _ (rs : List Record) (out : List ℕ) (p : ℕ) (room : p + length rs * spot_width ≤ length out) (held : (k : ℕ) (r : Record) → StandsAt rs k r → Held r) where
  abbrev listed : List ℕ
  listed = sets out p (bytes_of rs)

  record-there : (k : ℕ) (d : Record) → k < length rs → record_from listed (p + spot_width * k) ≡ get_or rs k d
  record-there k d h =
      let size = length-bytes_of rs in
      let long : length (take p out) ≡ p = length-take-le p out (omega arith) in
      let e : p + spot_width * k ≡ length (take p out) + spot_width * k = omega arith in
      ap (λ x. record_from x (p + spot_width * k)) (sets-eq (bytes_of rs) out p (omega arith) ∙ append_assoc (take p out) (bytes_of rs) (drop (p + length (bytes_of rs)) out))
      ∙ ap (record_from (take p out ++ (bytes_of rs ++ drop (p + length (bytes_of rs)) out))) e
      ∙ record_from-append (take p out) (bytes_of rs ++ drop (p + length (bytes_of rs)) out) (spot_width * k) ∙ read_back rs _ k d h held

  records_there : (k : ℕ) → k ≤ length rs → records_in listed p k ≡ take k rs
  unfolding records_in
  records_there zero h = refl
  records_there (suc k) h =
      let d : Record = record_from listed (p + spot_width * k) in
      rw (records_there k (omega arith), record-there k d (omega arith)) (sym (take-suc rs k d (omega arith)))

-- a record stands at each place of a list
stands_at : (rs : List Record) (k : ℕ) (d : Record) → k < length rs → StandsAt rs k (get_or rs k d)
unfolding StandsAt
stands_at [] k d h = let z : ⊥ = omega arith in absurd z
stands_at (r ∷ rs) zero d h = refl
stands_at (r ∷ rs) (suc k) d h = stands_at rs k d (omega arith)

-- ---- a tile

module _ (s : Set) (th : Thresholds) (h w octave : ℕ) (l0 l1 l2 l3 : List Float) (p : Small s th h w octave (length l0) (length l1) (length l2) (length l3))
    (i j done : ℕ) (out : List ℕ) (q : Fits i j done (length out)) where
  abbrev maps : Maps
  maps = maps_of l0 l1 l2 l3 (record { rows = h; cols = w; octave = octave }) s th

  abbrev found : List Record
  found = found_in s th h w octave l0 l1 l2 l3

  abbrev base : ℕ
  base = done * numbered_width

  held : (k : ℕ) (r : Record) → StandsAt found k r → Held r
  held k r st = list_held maps r p.tall p.wide (record { place = k; there = st })

  pub fill_full : (n : ℕ) → n ≡ length found → (length out - base) / numbered_width < n → filling None out ≡ fill_of s i j found done out
  unfolding fill_of
  fill_full n e b = let l = q.lies in rw (lt-leb ((done + length found) * numbered_width) (length out) (omega arith))

  module _ (n : ℕ) (e : n ≡ length found) (room : n ≤ (length out - base) / numbered_width) where
    pub fits_all : base + numbered_width * n ≤ length out
    fits_all = let l = q.lies in omega arith

    module _ (o1 : List ℕ) (is : o1 ≡ sets out (base + 16 * n) (bytes_of found)) where
      there : (k : ℕ) (d : Record) → k < n → record_from o1 (base + 16 * n + spot_width * k) ≡ get_or found k d
      there k d b = let f = fits_all in rw is (record-there found out (base + 16 * n) (omega arith) held k d (omega arith))

      pub stand : Stand i j o1 base n
      stand =
          let f = fits_all in
          record {
            down = q.down;
            right = q.right;
            place = rw (ap length is ∙ length-sets out (base + 16 * n) (bytes_of found)) f;
            placed = λ k b.
                let d : Record = record_from o1 (base + 16 * n + spot_width * k) in
                home_placed h w d p.tall p.wide
                (ap (readable h w) (there k d b) ∙ join_accepts maps (get_or found k d) (record { place = k; there = stands_at found k d (omega arith) }));
          }

      pub fill_whole : (o2 : List ℕ) → o2 ≡ sets o1 base (tile_bytes s i j (records_in o1 (base + 16 * n) n)) → filling (Some (done + n)) o2 ≡ fill_of s i j found done out
      unfolding fill_of
      fill_whole o2 f =
          let size = length-bytes_of found in
          let long = length-tile_bytes s i j found in
          let f' = fits_all in
          let list : records_in o1 (base + 16 * n) n ≡ found =
          ap (λ x. records_in x (base + 16 * n) n) is ∙ records_there found out (base + 16 * n) (omega arith) held n (omega arith) ∙ take_all n found (omega arith) in
          let over : o2 ≡ sets out base (tile_bytes s i j found) =
          f ∙ ap (λ x. sets o1 base (tile_bytes s i j x)) list ∙ ap (λ x. sets x base (tile_bytes s i j found)) is
          ∙ sets_over out (bytes_of found) (tile_bytes s i j found) (base + 16 * n) base (omega arith) (omega arith) (omega arith) (omega arith) in
          rw (le-leb ((done + length found) * numbered_width) (length out) (omega arith), over, e)
