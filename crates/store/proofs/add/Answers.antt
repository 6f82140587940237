-- `add` meets its contract.
use Rattle.std.proofs.lemmas.Result.{err_from_is_err_and}
use Prim.Native.Nat.{◌*◌}
use native.Mathlib.Omega.{arith}
use mathlib.Core.Path.{sym, ap, ◌∙◌}
use lib.Seq.{sets, take_all}
use Rattle.record.specs.Layout.{spot_width}
use Rattle.store.specs.Store.{Add}
use Rattle.store.proofs.StoreLaws.{add-passed, call_refused}
use Rattle.store.proofs.CallLaws.{add_done}
use Rattle.store.proofs.add.Goals as goal

pub overflow_mul-free : goal.overflow_mul-free
overflow_mul-free c =
    let a = c.args in
    let p = add-passed a.rows a.cols a.spot.now a.buffer.now (sym c.add.ensures ∙ c.in_ok-add.was) in
    omega (arith, p.room, c.first_free-free.ensures)

pub put_first-requires : goal.put_first-requires
put_first-requires c =
    let a = c.args in
    let p = add-passed a.rows a.cols a.spot.now a.buffer.now (sym c.add.ensures ∙ c.in_ok-add.was) in
    record { n_in_bounds = omega (arith, p.long); n_in_bounds_2 = omega (arith, p.room, c.first_free-free.ensures) }

pub returns-in_err-add : goal.returns-in_err-add
returns-in_err-add c =
    let a = c.args in
    let p = err_from_is_err_and c.from_residual.result c.from_residual.ensures.1 in
    rw (p.1, p.2) (sym (call_refused (Add a.rows a.cols a.spot.now) a.buffer.now _ (sym c.add.ensures ∙ c.in_err-add.was)))

pub returns : goal.returns
returns c =
    let a = c.args in
    let fine = sym c.add.ensures ∙ c.in_ok-add.was in
    let p = add-passed a.rows a.cols a.spot.now a.buffer.now fine in
    let i = c.first_free-free in
    let stored = c.put_first.ensures ∙ ap (sets a.buffer.now (i.result * spot_width)) (take_all spot_width a.spot.now (omega (arith, p.long))) in
    add_done a.rows a.cols a.spot.now a.buffer.now _ i.result fine i.ensures stored
