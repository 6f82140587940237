-- What the list's records are: readable, with finite floats and finite samples around. Assumes nothing.
use Prim.Native.Nat.{◌/◌, ◌%◌}
use mathlib.Core.Path.{◌≡◌}
use mathlib.Core.Bool.{true}
use Rattle.record.specs.declared.Record.{Record}
use Rattle.record.specs.Readable.{readable, Finite}
use Rattle.record.proofs.ReadableLaws.{readable_parts}
use Rattle.pixel.specs.Verdict.{whole_of}
use Rattle.samples.specs.Level.{Maps, nine_at}
use Rattle.detect.specs.Due.{due}
use Rattle.demands.specs.List.{Stands}
use Rattle.demands.proofs.Listed.{list_is, own_key}

module _ (m : Maps) (r : Record) (h : Stands (due m) r) where
  -- The join accepts each listed record.
  pub join_accepts : readable m.frame.rows m.frame.cols r ≡ true
  join_accepts = ((list_is m r).0 h).rules.join_accepts

  -- Each float in a listed record is finite.
  pub floats-finite : Finite r
  floats-finite = (readable_parts m.frame.rows m.frame.cols r join_accepts).floats

  -- All four samples are finite at a listed record's pixel and at each of its eight neighbours.
  pub samples_finite : whole_of (nine_at m (r.key / m.frame.cols) (r.key % m.frame.cols)) ≡ true
  samples_finite =
      let a = (list_is m r).0 h in
      let own = (own_key m a.row a.col a.is_max r a.judged a.rules).1 in
      rw (own.row_is, own.col-is) a.rules.samples_finite
