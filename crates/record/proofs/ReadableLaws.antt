-- A readable record has each of the parts, and a record that has them is readable. Assumes nothing.
use Prim.Native.Nat.{ℕ, ◌*◌}
use mathlib.Core.Path.{◌≡◌, refl}
use mathlib.Core.Bool.{Bool, true, false, ◌||◌}
use mathlib.Core.Logic.{◌⊎◌, inl, inr}
use lib.Dec.{leb, ltb, eqb}
use borrow.Author.Tests.{ltb-true, leb-true, eqb-true, lt-ltb, le-leb, eq-eqb}
use Rattle.float.specs.Small.{finite}
use Rattle.float.proofs.Bools.{both, all_eight}
use Rattle.moves.specs.Moves.{nearby}
use Rattle.record.specs.Readable.{finite_record, on_side, readable, Finite, Readable}
use Rattle.record.specs.declared.Record.{Record}

one_of : (n : ℕ) (a b : Bool) → (a ≡ true → n ≡ 1) → (b ≡ true → n ≡ 2) → a || b ≡ true → (n ≡ 1) ⊎ (n ≡ 2)
one_of n true b one two q = inl (one refl)
one_of n false b one two q = inr (two q)

index_is : (n : ℕ) → (n ≡ 1) ⊎ (n ≡ 2) → eqb n 1 || eqb n 2 ≡ true
index_is n (inl e) = rw e
index_is n (inr e) = rw e

pub finite_parts : (r : Record) → finite_record r ≡ true → Finite r
unfolding finite_record
finite_parts r q =
    let p = all_eight (finite r.x) (finite r.y) (finite r.sigma) (finite r.peak) (finite r.s0) (finite r.s1) (finite r.s2) (finite r.s3) q in
    record { x = p.0; y = p.1; sigma = p.2; peak = p.3; s0 = p.4; s1 = p.5; s2 = p.6; s3 = p.7 }

pub parts_finite : (r : Record) → Finite r → finite_record r ≡ true
unfolding finite_record
parts_finite r p = rw (p.x, p.y, p.sigma, p.peak, p.s0, p.s1, p.s2, p.s3)

module _ (rows cols : ℕ) (r : Record) where
  pub readable_parts : readable rows cols r ≡ true → Readable rows cols r
  unfolding readable
  readable_parts q =
      let front = both _ (nearby r.dy) q in
      let old = both _ (nearby r.dx) front.0 in
      let p = all_eight (finite_record r) (on_side cols r.x) (on_side rows r.y) (ltb r.key (rows * cols)) (leb r.octave 5) (eqb r.index 1 || eqb r.index 2) (leb r.polarity 1) (eqb r.spare 0) old.0 in
      record {
        floats = finite_parts r p.0;
        x = p.1;
        y = p.2;
        key = ltb-true r.key (rows * cols) p.3;
        octave = leb-true r.octave 5 p.4;
        index = one_of r.index (eqb r.index 1) (eqb r.index 2) (eqb-true r.index 1) (eqb-true r.index 2) p.5;
        polarity = leb-true r.polarity 1 p.6;
        spare = eqb-true r.spare 0 p.7;
        dx = old.1;
        dy = front.1;
      }

  pub parts_readable : Readable rows cols r → readable rows cols r ≡ true
  unfolding readable
  parts_readable p =
      rw (parts_finite r p.floats, p.x, p.y, lt-ltb r.key (rows * cols) p.key, le-leb r.octave 5 p.octave, index_is r.index p.index, le-leb r.polarity 1 p.polarity, eq-eqb r.spare 0 p.spare, p.dx, p.dy)
