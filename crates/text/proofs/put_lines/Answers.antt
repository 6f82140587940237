-- `put_lines` meets its contract. The loop's invariant: the first i lines stand there.
use native.Mathlib.Omega.{arith}
use mathlib.Core.Path.{◌≡◌}
use native.Mathlib.Numerals.{add-one}
use Rattle.text.specs.Text.{lines_in}
use Rattle.text.proofs.TextLaws.{wrote_none, wrote_append, length-record-line}
use Rattle.text.proofs.put_lines.Goals as goal

pub loop-i-init : goal.loop-i-init
unfolding lines_in
loop-i-init c = (omega arith, omega arith, wrote_none)

pub put_line-next-requires : goal.put_line-next-requires
put_line-next-requires c = record { line_width_in_bounds = omega (arith, c.loop-i.invariant.2.long); spot_width_in_bounds = omega arith }

pub loop-i-preserved : goal.loop-i-preserved
unfolding lines_in
loop-i-preserved c =
    let l = c.loop-i in
    let a = c.args in
    let p = c.put_line-next.ensures in
    (omega arith, omega (arith, p.count, length-record-line a.records.now l.i (omega arith)), rw add-one (wrote_append l.invariant.2 p))

pub shape_of-out : goal.shape_of-out
shape_of-out c = c.loop-i.invariant.2.long

pub returns : goal.returns
returns c =
    let l = c.loop-i in
    let e : l.i ≡ c.args.n = omega arith in
    record { wrote = rw e at l.invariant.2; value = rw e at l.invariant.1 }
