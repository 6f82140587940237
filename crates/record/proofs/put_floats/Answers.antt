-- `record::put_floats` meets its contract. Assumes nothing.
use native.Mathlib.Nat.{add_assoc}
use Rattle.record.specs.Layout.{floats4}
use Rattle.words.proofs.Stores.{sets-append}
use Rattle.words.proofs.WordsLaws.{length-float_bytes}
use Rattle.record.proofs.put_floats.Goals as goal

pub returns : goal.returns
unfolding floats4
returns c = simp (sets-append, length-float_bytes, add_assoc) cc
