-- `check::check_line` meets its contract. The loop's invariant: the first i roots are known.
use mathlib.Core.Path.{◌≡◌}
use native.Mathlib.Omega.{arith}
use lib.Ieee.{nan}
use Rattle.columns.proofs.LineLaws.{written_none, written_next}
use Rattle.columns.proofs.check.check_line.Goals as goal

pub loop-i-init : goal.loop-i-init
loop-i-init c = written_none nan _ 0 _

pub loop-i-preserved : goal.loop-i-preserved
loop-i-preserved c =
    let l = c.loop-i in
    written_next nan c.checked.result l.invariant (omega arith) c.checked.ensures

pub returns : goal.returns
returns c =
    let l = c.loop-i in
    let e : c.args.n ≡ l.i = omega (arith, c.loop-i-test.false) in
    rw e l.invariant
