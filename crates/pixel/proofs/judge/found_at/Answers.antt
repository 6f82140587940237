-- `judge::found_at` meets its contract.
use Rattle.pixel.proofs.judge.found_at.Goals as goal

pub returns : goal.returns
returns c = rw (c.kept.ensures, c.neighbor_scale_band.ensures, c.refined-found.ensures, c.key_of.ensures, c.anchor-spot.ensures)
