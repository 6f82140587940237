-- `search::first_free` meets its contract.
use Rattle.std.proofs.Common.{rules, tests, ◌∙◌, ap, sym}
use Rattle.std.proofs.lemmas.Iterator.{YieldsList-from_slice}
use Rattle.std.proofs.lemmas.Iterator.Search.{position_from_yields_List}
use Rattle.store_slots.specs.Slots.{is_free, first_where}
use Rattle.store_slots.proofs.SearchLaws.{where_found, slots_chunks}
use Rattle.store_slots.proofs.search.first_free.Goals as goal

pub returns : goal.returns
returns c =
    let found = position_from_yields_List is_free _ _ c.position.result c.position.ensures.ran (YieldsList-from_slice _ c.iter.ensures.rest) (λ x b q k. search (rules, tests)) in
    c.unwrap_or.ensures ∙ where_found is_free _ _ found ∙ ap (first_where is_free) (c.as_chunks.ensures.front ∙ sym (slots_chunks _ _))
