-- `is_roomy` meets its contract: a marked pixel lists at most two records, any other none.
use mathlib.Core.Path.{sym}
use Prim.Native.Nat.{◌-◌, ◌*◌}
use native.Mathlib.Omega.{arith}
use lib.ListN.{length}
use borrow.Author.Tests.{le-leb}
use Rattle.record.specs.Layout.{spot_width}
use Rattle.samples.specs.Map.{four_in}
use Rattle.ring.specs.Ring.{column_spots}
use Rattle.ring.proofs.SpotsLaws.{column_short, height-most}
use Rattle.spots.proofs.MarkedLaws.{marked_short}
use Rattle.spots.proofs.is_roomy.Goals as goal

pub marked-requires : goal.marked-requires
marked-requires c =
    let a = c.args in
    let p = c.requires in
    omega (arith, p.n_value, height-most a.column.now.state, a.column.now.lent.rows-most)

pub overflow_mul-marked : goal.overflow_mul-marked
overflow_mul-marked c =
    let a = c.args in
    let p = c.requires in
    omega (arith, c.marked.ensures.1, p.n_value, height-most a.column.now.state, a.column.now.lent.rows-most)

pub returns-then-marked-room : goal.returns-then-marked-room
returns-then-marked-room c =
    let a = c.args in
    let p = c.requires in
    let ring = four_in a.column.now.ring in
    let given = four_in a.column.now.given in
    let short = marked_short a.column.now.state ring given a.n a.marks.now p.ruled.ruled in
    sym (le-leb (length (column_spots a.column.now.state ring given (a.column.now.state.position - 2) a.n) * spot_width) a.room (omega (arith, c.if-marked-room.true, c.marked.ensures.0, short)))

pub overflow_mul-result : goal.overflow_mul-result
overflow_mul-result c =
    let a = c.args in
    let p = c.requires in
    let ring = four_in a.column.now.ring in
    let given = four_in a.column.now.given in
    omega (arith, c.count.ensures, column_short a.column.now.state ring given (a.column.now.state.position - 2) a.n, p.n_value, height-most a.column.now.state, a.column.now.lent.rows-most)

pub returns : goal.returns
returns c = rw c.count.ensures
