-- `strike` meets its contract.
use Rattle.std.proofs.lemmas.Result.{err_from_is_err_and}
use Prim.Native.Nat.{◌*◌}
use native.Mathlib.Omega.{arith}
use mathlib.Core.Path.{sym, ap, ◌∙◌}
use lib.ListN.{length}
use lib.Seq.{sets, take_all}
use Rattle.record.specs.Layout.{spot_width}
use Rattle.store.specs.Store.{Strike}
use Rattle.store_slots.proofs.SlotLaws.{length-free, live_inside}
use Rattle.store.proofs.StoreLaws.{strike_passed, call_refused}
use Rattle.store.proofs.CallLaws.{strike_done}
use Rattle.store.proofs.strike.Goals as goal

pub overflow_mul-i : goal.overflow_mul-i
overflow_mul-i c =
    let a = c.args in
    let p = strike_passed a.rows a.cols a.buffer.now a.i (sym c.strike.ensures ∙ c.in_ok-strike.was) in
    omega (arith, live_inside a.buffer.now a.i p.1)

pub put_first-requires : goal.put_first-requires
put_first-requires c =
    let a = c.args in
    let p = strike_passed a.rows a.cols a.buffer.now a.i (sym c.strike.ensures ∙ c.in_ok-strike.was) in
    record { n_in_bounds = omega (arith, ap length c.free_bytes-free.ensures, length-free); n_in_bounds_2 = omega (arith, live_inside a.buffer.now a.i p.1) }

pub returns-in_err-strike : goal.returns-in_err-strike
returns-in_err-strike c =
    let a = c.args in
    let p = err_from_is_err_and c.from_residual.result c.from_residual.ensures.1 in
    rw (p.1, p.2) (sym (call_refused (Strike a.rows a.cols a.i) a.buffer.now _ (sym c.strike.ensures ∙ c.in_err-strike.was)))

pub returns : goal.returns
returns c =
    let a = c.args in
    let fine = sym c.strike.ensures ∙ c.in_ok-strike.was in
    let free = c.free_bytes-free.ensures in
    let whole = ap (sets a.buffer.now (a.i * spot_width)) (take_all spot_width _ (omega (arith, ap length free, length-free)) ∙ free) in
    strike_done a.rows a.cols a.i a.buffer.now _ fine (c.put_first.ensures ∙ whole)
