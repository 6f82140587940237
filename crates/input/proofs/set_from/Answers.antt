-- `set_from` meets its contract.
use mathlib.Core.Path.{sym}
use lib.Seq.{length-take-le}
use Rattle.input.proofs.set_from.Goals as goal

pub slice_bounds-read_or_blank-end : goal.slice_bounds-read_or_blank-end
slice_bounds-read_or_blank-end c = sym (length-take-le 528 c.args.input.now c.requires)

pub returns : goal.returns
returns c = cc
