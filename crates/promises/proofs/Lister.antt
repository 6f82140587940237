-- The promises of what the list program reads, of its text and of its work settle what is read, and what is put out: its length and its bytes. Assumes nothing.
use Prim.Native.Nat.{ℕ}
use mathlib.Core.Path.{◌≡◌, refl, sym, ◌∙◌}
use mathlib.Core.List.{List}
use seplogic.Ra.Ura.{Ura}
use lib.ListN.{take}
use base.Logic.{SProp}
use prog.Memory.{Memory}
use prog.Routine.{Routine}
use types.Logic.{Logic}
use contract.Monad.{Fun}
use Rattle.text.specs.Text.{Wrote}
use Rattle.text.specs.contracts.put_lines as put-lines
use Rattle.text.specs.contracts.put_found as put-found
use Rattle.text.specs.contracts.put_refused as Put-refused
use Rattle.input.specs.contracts.count_from as count-from
use Rattle.input.specs.contracts.checked as checked
use Rattle.input.specs.contracts.set_from as set-from
use Rattle.input.specs.contracts.thresholds_from as thresholds-from
use Rattle.input.specs.contracts.area_from as area-from
use Rattle.input.specs.contracts.level_from as level-from
use Rattle.lister.specs.contracts.list as list
use Rattle.promises.specs.Settles.{AllAlike, Settles}
use Rattle.promises.proofs.Facts.{both_told, first_can, one_answer}

-- where the same text is written into the same buffer, the next place is the same, and so are the bytes before it
same_text : {out o o' text : List ℕ} {at r r' : ℕ} → Wrote out o at r text → Wrote out o' at r' text → (r ≡ r') × (take r o ≡ take r' o')
same_text p q = (p.count ∙ sym q.count, p.bytes ∙ sym q.bytes)

module _ {M : Type 1} {𝓤 : Ura M} (𝓛 : Logic 𝓤) (mem : Memory → SProp 𝓤) (run : Routine → Fun 𝓤) where
  -- ---- what is read

  pub count-from_settled : Settles 𝓤 count-from.ended (count-from.clauses 𝓛 mem run)
  count-from_settled κs a g g' r r' ws ws' = one_answer 𝓤 _

  pub checked_settled : Settles 𝓤 checked.ended (checked.clauses 𝓛 mem run)
  checked_settled κs a g g' r r' ws ws' = one_answer 𝓤 _

  pub set-from_settled : Settles 𝓤 set-from.ended (set-from.clauses 𝓛 mem run)
  set-from_settled κs a g g' r r' ws ws' = one_answer 𝓤 _

  pub thresholds-from_settled : Settles 𝓤 thresholds-from.ended (thresholds-from.clauses 𝓛 mem run)
  thresholds-from_settled κs a g g' r r' ws ws' = one_answer 𝓤 _

  pub area_from_settled : Settles 𝓤 area-from.ended (area-from.clauses 𝓛 mem run)
  area_from_settled κs a g g' r r' ws ws' = both_told 𝓤 (λ p q. (p.0 ∙ sym q.0, refl))

  pub level_from_settled : Settles 𝓤 level-from.ended (level-from.clauses 𝓛 mem run)
  level_from_settled κs a g g' r r' ws ws' = one_answer 𝓤 _

  -- ---- what is put out

  pub put_lines_settled : AllAlike 𝓤 put-lines.ended (put-lines.clauses 𝓛 mem run) (λ κs a r r' ws ws'. (r ≡ r') × (take r ws.0 ≡ take r' ws'.0))
  put_lines_settled κs a g g' r r' ws ws' s s' = both_told 𝓤 same_text (first_can 𝓤 _ _ s) (first_can 𝓤 _ _ s')

  pub put-found_settled : AllAlike 𝓤 put-found.ended (put-found.clauses 𝓛 mem run) (λ κs a r r' ws ws'. (r ≡ r') × (take r ws.0 ≡ take r' ws'.0))
  put-found_settled κs a g g' r r' ws ws' = both_told 𝓤 same_text

  pub put-refused_settled : AllAlike 𝓤 Put-refused.ended (Put-refused.clauses 𝓛 mem run) (λ κs a r r' ws ws'. (r ≡ r') × (take r ws.0 ≡ take r' ws'.0))
  put-refused_settled κs a g g' r r' ws ws' = both_told 𝓤 same_text

  pub list_settled : AllAlike 𝓤 list.ended (list.clauses 𝓛 mem run) (λ κs a r r' ws ws'. (r ≡ r') × (take r ws.1.0 ≡ take r' ws'.1.0))
  list_settled κs a g g' r r' ws ws' s s' = both_told 𝓤 (λ p q. (p.count ∙ sym q.count, p.bytes ∙ sym q.bytes)) (first_can 𝓤 _ _ s) (first_can 𝓤 _ _ s')
