-- `place::place_record` meets its contract.
use Rattle.tile.proofs.PlaceLaws.{numbered_parts}
use borrow.Author.Rules.{rules}
use Rattle.tile.proofs.place.place_record.Goals as goal

pub put_sized-requires : goal.put_sized-requires
put_sized-requires c = record { sized_width_in_bounds = search rules; placed = rw c.record_from-r.ensures c.requires.placed }

pub returns : goal.returns
returns c =
    let a = c.args in
    numbered_parts a.set a.i a.j _ a.out.now a.to c.put_half.ensures c.put_half-2.ensures (rw c.record_from-r.ensures at c.put_sized.ensures)
