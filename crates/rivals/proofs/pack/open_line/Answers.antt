-- `pack::open_line` meets its contract. The loop's invariant: the first i entries are written.
use mathlib.Core.Path.{◌≡◌}
use native.Mathlib.Omega.{arith}
use Rattle.columns.proofs.LineLaws.{written_none, written_next}
use Rattle.rivals.proofs.pack.open_line.Goals as goal

pub loop-i-init : goal.loop-i-init
loop-i-init c = written_none 0 _ 0 _

pub loop-i-preserved : goal.loop-i-preserved
loop-i-preserved c =
    let l = c.loop-i in
    written_next 0 c.is_unsure.result l.invariant (omega arith) c.is_unsure.ensures

pub returns : goal.returns
returns c =
    let l = c.loop-i in
    let e : 256 ≡ l.i = omega (arith, c.loop-i-test.false) in
    rw e l.invariant
