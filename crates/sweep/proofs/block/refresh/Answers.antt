-- `block::refresh` meets its contract.
use Prim.Native.Nat.{◌-◌}
use native.Mathlib.Omega.{arith}
use mathlib.Core.Path.{◌∙◌}
use Rattle.samples.specs.Map.{maps_in}
use Rattle.sweep.proofs.PassLaws.{height_least, block_begun}
use Rattle.sweep.proofs.block.refresh.Goals as goal

pub sweep-requires : goal.sweep-requires
sweep-requires c =
    let p = c.requires in
    let h = c.min.ensures in
    record { n_bound = (omega (arith, h), omega (arith, h)) }

pub returns-then-j-eq0 : goal.returns-then-j-eq0
returns-then-j-eq0 c =
    let s = c.args in
    let h = c.min.ensures ∙ height_least (s.map.now.frame.rows - 8 - s.j) in
    block_begun (maps_in s.map.now) s.j c.if-j-eq0.true
    (rw h at c.sweep.ensures)

pub returns-else-j-eq0 : goal.returns-else-j-eq0
returns-else-j-eq0 c = c.requires.block (omega (arith, c.if-j-eq0.false))
