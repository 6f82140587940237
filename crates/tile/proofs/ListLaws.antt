-- What the detector tells of one tile, and what it leaves in a part of a buffer. Assumes nothing.
use Rattle.std.specs.Prelude.{Result, Ok, IsOk}
use Prim.Native.Nat.{ℕ, ◌+◌, ◌-◌, ◌*◌, ◌/◌, ◌≤◌}
use native.Mathlib.Omega.{arith}
use mathlib.Core.Path.{◌≡◌, refl, ap, ◌∙◌}
use mathlib.Core.List.{List, ◌++◌, append-nil}
use lib.ListN.{length, take, drop, length-take, length-drop}
use lib.Seq.{sets, take_at, take_all}
use lib.Ieee.{Float}
use borrow.Author.Tests.{le-ltb, eq-eqb}
use borrow.Rule.Slice.PartMut.{put_mid, mid_of}
use Rattle.tables.specs.declared.Set.{Set}
use Rattle.tables.specs.declared.Thresholds.{Thresholds}
use Rattle.tables.specs.declared.Refusal.{Refusal}
use Rattle.tables.specs.Refusal.{unless, first_of}
use Rattle.record.specs.declared.Record.{Record}
use Rattle.record.specs.Layout.{spot_width, bytes_of, laid}
use Rattle.record.proofs.LayoutLaws.{length-bytes_of}
use Rattle.checks.specs.Checks.{detect_checks}
use Rattle.detect.specs.Detect.{Outcome, outcome, detected, detect_of}
use Rattle.words.proofs.Parts.{put_part, none_left}
use Rattle.tile.specs.Tile.{Small, found_in, Holds}

-- ---- the detector

-- as many records as there is room for
laid_exact : (rs : List Record) (b : List ℕ) → length b ≡ length rs * spot_width → laid rs b ≡ bytes_of rs
unfolding laid
laid_exact rs b e =
    let n : length b / spot_width ≡ length rs = omega arith in
    let long = length-bytes_of rs in
    rw (n, take_all (length rs) rs (omega arith)) (ap (λ (x : List ℕ). bytes_of rs ++ x) (none_left b (length (bytes_of rs)) (omega arith)) ∙ append-nil (bytes_of rs))

-- where there is room for all records the buffer begins with them
laid-begins : (rs : List Record) (b : List ℕ) → length rs ≤ length b / spot_width → take (length rs * spot_width) (laid rs b) ≡ bytes_of rs
unfolding laid
laid-begins rs b h =
    rw (take_all (length b / spot_width) rs h) (take_at (bytes_of rs) (drop (length (bytes_of rs)) b) (length rs * spot_width) (length-bytes_of rs))

module _ (s : Set) (th : Thresholds) (h w octave : ℕ) (l0 l1 l2 l3 : List Float) (p : Small s th h w octave (length l0) (length l1) (length l2) (length l3)) where
  abbrev found : List Record
  found = found_in s th h w octave l0 l1 l2 l3

  passes : first_of (detect_checks (length l0) (length l1) (length l2) (length l3) h w octave th s) ≡ Ok tt
  unfolding detect_checks first_of unless
  passes =
      rw (le-ltb _ _ p.tall, le-ltb _ _ p.wide, eq-eqb _ _ p.long0, eq-eqb _ _ p.long1, eq-eqb _ _ p.long2, eq-eqb _ _ p.long3, le-ltb _ _ p.few, p.clean, p.is-good)

  -- the detector answers how many records are due, and lays as many as have room
  pub detects : (b : List ℕ) → detect_of s th h w octave l0 l1 l2 l3 b ≡ outcome (Ok (length found)) (laid found b)
  unfolding detect_of detected
  detects b = rw passes

  told-count : (a : Result ℕ Refusal) (b b' : List ℕ) → outcome a b' ≡ detect_of s th h w octave l0 l1 l2 l3 b → a ≡ Ok (length found)
  told-count a b b' e = ap (λ (x : Outcome). x.answer) (e ∙ detects b)

  told_list_lem : (a : Result ℕ Refusal) (b b' : List ℕ) → outcome a b' ≡ detect_of s th h w octave l0 l1 l2 l3 b → b' ≡ laid found b
  told_list_lem a b b' e = ap (λ (x : Outcome). x.buffer) (e ∙ detects b)

  -- what the room held has after it
  pub told-holds : (a : Result ℕ Refusal) (b b' : List ℕ) (n : ℕ) → length b ≡ 131040 → outcome a b' ≡ detect_of s th h w octave l0 l1 l2 l3 b → a ≡ Ok n → Holds found n b'
  told-holds a b b' n long e is =
      let told = told-count a b b' e in
      let count : n ≡ length found = cc in
      rw count record { count = refl; begins = λ few. ap (take (length found * spot_width)) (told_list_lem a b b' e) ∙ laid-begins found b (omega arith) }

  -- and it is not refused
  pub told_ok : (a : Result ℕ Refusal) (b b' : List ℕ) → outcome a b' ≡ detect_of s th h w octave l0 l1 l2 l3 b → IsOk a
  told_ok a b b' e = rw (told-count a b b' e)

  -- a part of the output that has room for exactly the tile's records
  pub listed_part : (a : Result ℕ Refusal) (out ys : List ℕ) (at n : ℕ) → n ≡ length found → at + n * spot_width ≤ length out
      → outcome a ys ≡ detect_of s th h w octave l0 l1 l2 l3 (mid_of at (at + n * spot_width - at) out) → put_mid at (at + n * spot_width - at) out ys ≡ sets out at (bytes_of found)
  listed_part a out ys at n e room told =
      let k : at + n * spot_width - at ≡ n * spot_width = omega arith in
      let long : length (mid_of at (at + n * spot_width - at) out) ≡ length found * spot_width = simp (length-take, length-drop) (omega arith) in
      let is = told_list_lem a (mid_of at (at + n * spot_width - at) out) ys told ∙ laid_exact found (mid_of at (at + n * spot_width - at) out) long in
      rw is (put_part at (at + n * spot_width - at) out (bytes_of found) (omega (arith, length-bytes_of found)) (omega arith))
