-- `put_line` meets its contract. The loop's invariant: the hex digits of the first bytes stand there.
use native.Mathlib.Omega.{arith}
use mathlib.Core.Path.{◌≡◌}
use mathlib.Core.List.{List, [], ◌∷◌}
use Prim.Native.Nat.{ℕ, ◌+◌, ◌-◌, ◌*◌, ◌≤◌}
use lib.ListN.{length, get_or, take, drop}
use lib.Seq.{take_all}
use Rattle.record.specs.Layout.{spot_width}
use Rattle.text.specs.Text.{hex_of, line_of}
use Rattle.text.proofs.TextLaws.{wrote_none, wrote_append, length-hex_of, hex_next}
use Rattle.text.proofs.put_line.Goals as goal

pub loop-byte-init : goal.loop-byte-init
unfolding hex_of
loop-byte-init c = (omega arith, wrote_none)

pub loop-byte-preserved : goal.loop-byte-preserved
loop-byte-preserved c =
    let l = c.loop-byte in
    let p = c.put_hex-next.ensures in
    let bytes : List ℕ = take (c.args.i * spot_width + spot_width - c.args.i * spot_width) (drop (c.args.i * spot_width) c.args.records.now) in
    (omega (arith, p.count, length-hex_of (get_or bytes l.byte-index 0 ∷ [])), rw (← hex_next bytes l.byte-index (omega arith)) (wrote_append l.invariant.1 p))

pub returns : goal.returns
unfolding line_of
returns c =
    let l = c.loop-byte in
    let b = c.args.i * spot_width in
    let width : b + spot_width - b ≡ spot_width = omega arith in
    let bytes : List ℕ = take (b + spot_width - b) (drop b c.args.records.now) in
    let end : length bytes ≤ l.byte-index = omega arith in
    wrote_append (rw (take_all l.byte-index bytes end, width) at l.invariant.1) c.push.ensures
