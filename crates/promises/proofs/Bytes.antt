-- The promises of the words, of the spot's record and of the sized record settle what is read and what is written. Assumes nothing.
use seplogic.Ra.Ura.{Ura}
use base.Logic.{SProp}
use prog.Memory.{Memory}
use prog.Routine.{Routine}
use types.Logic.{Logic}
use contract.Monad.{Fun}
use Rattle.words.specs.contracts.bits as bits
use Rattle.words.specs.contracts.float_of as float_of
use Rattle.words.specs.contracts.put_bytes as put-bytes
use Rattle.words.specs.contracts.put_half as put-half
use Rattle.words.specs.contracts.put_word as put_word
use Rattle.words.specs.contracts.put_float as put-float
use Rattle.words.specs.contracts.put_first as put_first
use Rattle.words.specs.contracts.word_from as word-from
use Rattle.words.specs.contracts.float_from as float-from
use Rattle.words.specs.contracts.read_floats as read-floats
use Rattle.record.specs.contracts.put_old as put-old
use Rattle.record.specs.contracts.put_record as put_record
use Rattle.record.specs.contracts.put_at as put-at
use Rattle.record.specs.contracts.record_from as record-from
use Rattle.record.specs.contracts.old_from as old-from
use Rattle.record.specs.contracts.is_readable as is-readable
use Rattle.sized.specs.contracts.put_sized as put-sized
use Rattle.sized.specs.contracts.put_old_sized as put-old-sized
use Rattle.promises.specs.Settles.{Settles}
use Rattle.promises.proofs.Facts.{one_value, one_answer, untouched}

module _ {M : Type 1} {𝓤 : Ura M} (𝓛 : Logic 𝓤) (mem : Memory → SProp 𝓤) (run : Routine → Fun 𝓤) where
  -- ---- words and floats

  pub bits_settled : Settles 𝓤 bits.ended (bits.clauses 𝓛 mem run)
  bits_settled κs a g g' r r' ws ws' = one_answer 𝓤 _

  pub float_of_settled : Settles 𝓤 float_of.ended (float_of.clauses 𝓛 mem run)
  float_of_settled κs a g g' r r' ws ws' = one_answer 𝓤 _

  pub put-bytes_settled : Settles 𝓤 put-bytes.ended (put-bytes.clauses 𝓛 mem run)
  put-bytes_settled κs a g g' r r' ws ws' = one_value 𝓤 _ _ _ (λ x. tt) (λ x. (x, untouched 5 tt))

  pub put_half_settled : Settles 𝓤 put-half.ended (put-half.clauses 𝓛 mem run)
  put_half_settled κs a g g' r r' ws ws' = one_value 𝓤 _ _ _ (λ x. tt) (λ x. (x, untouched 2 tt))

  pub put-word_settled : Settles 𝓤 put_word.ended (put_word.clauses 𝓛 mem run)
  put-word_settled κs a g g' r r' ws ws' = one_value 𝓤 _ _ _ (λ x. tt) (λ x. (x, untouched 2 tt))

  pub put-float_settled : Settles 𝓤 put-float.ended (put-float.clauses 𝓛 mem run)
  put-float_settled κs a g g' r r' ws ws' = one_value 𝓤 _ _ _ (λ x. tt) (λ x. (x, untouched 2 tt))

  pub put-first_settled : Settles 𝓤 put_first.ended (put_first.clauses 𝓛 mem run)
  put-first_settled κs a g g' r r' ws ws' = one_value 𝓤 _ _ _ (λ x. tt) (λ x. (x, untouched 3 tt))

  pub word-from_settled : Settles 𝓤 word-from.ended (word-from.clauses 𝓛 mem run)
  word-from_settled κs a g g' r r' ws ws' = one_answer 𝓤 _

  pub float-from_settled : Settles 𝓤 float-from.ended (float-from.clauses 𝓛 mem run)
  float-from_settled κs a g g' r r' ws ws' = one_answer 𝓤 _

  pub read_floats_settled : Settles 𝓤 read-floats.ended (read-floats.clauses 𝓛 mem run)
  read_floats_settled κs a g g' r r' ws ws' = one_value 𝓤 _ _ _ (λ x. tt) (λ x. untouched 2 (x, tt))

  -- ---- a spot's record

  pub put_old_settled : Settles 𝓤 put-old.ended (put-old.clauses 𝓛 mem run)
  put_old_settled κs a g g' r r' ws ws' = one_value 𝓤 _ _ _ (λ x. tt) (λ x. (x, untouched 2 tt))

  pub put-record_settled : Settles 𝓤 put_record.ended (put_record.clauses 𝓛 mem run)
  put-record_settled κs a g g' r r' ws ws' = one_value 𝓤 _ _ _ (λ x. tt) (λ x. (x, untouched 2 tt))

  pub put_at_settled : Settles 𝓤 put-at.ended (put-at.clauses 𝓛 mem run)
  put_at_settled κs a g g' r r' ws ws' = one_value 𝓤 _ _ _ (λ x. tt) (λ x. (x, untouched 2 tt))

  pub record-from_settled : Settles 𝓤 record-from.ended (record-from.clauses 𝓛 mem run)
  record-from_settled κs a g g' r r' ws ws' = one_answer 𝓤 _

  pub old_from_settled : Settles 𝓤 old-from.ended (old-from.clauses 𝓛 mem run)
  old_from_settled κs a g g' r r' ws ws' = one_answer 𝓤 _

  pub is-readable_settled : Settles 𝓤 is-readable.ended (is-readable.clauses 𝓛 mem run)
  is-readable_settled κs a g g' r r' ws ws' = one_answer 𝓤 _

  -- ---- a sized record

  pub put_sized_settled : Settles 𝓤 put-sized.ended (put-sized.clauses 𝓛 mem run)
  put_sized_settled κs a g g' r r' ws ws' = one_value 𝓤 _ _ _ (λ x. tt) (λ x. (x, untouched 3 tt))

  pub put_old_sized_settled : Settles 𝓤 put-old-sized.ended (put-old-sized.clauses 𝓛 mem run)
  put_old_sized_settled κs a g g' r r' ws ws' = one_value 𝓤 _ _ _ (λ x. tt) (λ x. (x, untouched 3 tt))
