-- `sample_line` meets its contract. The loop's invariant: the first i samples are written.
use mathlib.Core.Path.{◌≡◌}
use native.Mathlib.Omega.{arith}
use lib.Ieee.{nan}
use Rattle.columns.proofs.LineLaws.{written_none, written_next}
use Rattle.slots.proofs.sample_line.Goals as goal

pub loop-i-init : goal.loop-i-init
loop-i-init c = (omega arith, written_none nan _ 0 _)

pub overflow_add-left : goal.overflow_add-left
overflow_add-left c = let h = c.requires.reach in omega (arith, h.before, h.most)

pub overflow_add-mid : goal.overflow_add-mid
overflow_add-mid c = let h = c.requires.reach in omega (arith, h.down, h.most)

pub overflow_add-right : goal.overflow_add-right
overflow_add-right c = let h = c.requires.reach in omega (arith, h.after, h.most)

pub stencil-requires : goal.stencil-requires
stencil-requires c = let h = c.requires.reach in record { le_mid = (omega (arith, h.up), omega (arith, h.down)); left_in_bounds = (omega (arith, h.before), omega (arith, h.after)) }

pub loop-i-preserved : goal.loop-i-preserved
loop-i-preserved c =
    let l = c.loop-i in
    (omega arith, written_next nan c.stencil.result l.invariant.1 (omega arith) c.stencil.ensures)

pub returns : goal.returns
returns c =
    let l = c.loop-i in
    let e : c.args.n ≡ l.i = omega (arith, c.loop-i-test.false) in
    rw e l.invariant.1
