-- `put_hex` meets its contract.
use Rattle.text.specs.Text.{hex_of}
use Rattle.text.proofs.TextLaws.{wrote_append}
use Rattle.text.proofs.put_hex.Goals as goal

pub returns : goal.returns
unfolding hex_of
returns c =
    rw (← c.hex_digit-high.ensures, ← c.hex_digit-low.ensures)
    (wrote_append c.push-next.ensures c.push.ensures)
