-- `judge::listing` meets its contract: both polarities from one envelope.
use Rattle.pixel.proofs.judge.listing.Goals as goal

pub verdict-low-requires : goal.verdict-low-requires
verdict-low-requires c = let p = c.requires in record { row_bound = p.row_bound; rows_bound = p.rows_bound; k_value = c.cubics_of-k.ensures; e_value = c.shape-e.ensures }

pub verdict-high-requires : goal.verdict-high-requires
verdict-high-requires c = let p = c.requires in record { row_bound = p.row_bound; rows_bound = p.rows_bound; k_value = c.cubics_of-k.ensures; e_value = c.shape-e.ensures }
