-- `start` meets its contract.
use native.Mathlib.Omega.{arith}
use lib.ListN.{length}
use Rattle.states.proofs.CallLaws.{own-answer, sound, start-bad, start-short, start_fine}
use Rattle.states.proofs.start.Goals as goal

pub returns-then-state-lt564 : goal.returns-then-state-lt564
returns-then-state-lt564 c =
    let a = c.args in
    rw c.from-then-state-lt564.ensures (start-short a.set.now a.thresholds a.rows a.cols a.octave (length a.r0.now) (length a.r1.now) (length a.r2.now) (length a.r3.now) a.state.now (own-answer a.set.now a.thresholds a.rows a.cols a.octave (length a.r0.now) (length a.r1.now) (length a.r2.now) (length a.r3.now) a.state.now _ _ c.read_or_blank-tables.ensures c.feed_start.ensures _ c.in-Ok.is) c.if-state-lt564.true)

pub write_state-requires : goal.write_state-requires
write_state-requires c =
    let a = c.args in
    let p = sound a.set.now a.thresholds a.rows a.cols a.octave (length a.r0.now) (length a.r1.now) (length a.r2.now) (length a.r3.now) a.state.now (own-answer a.set.now a.thresholds a.rows a.cols a.octave (length a.r0.now) (length a.r1.now) (length a.r2.now) (length a.r3.now) a.state.now _ _ c.read_or_blank-tables.ensures c.feed_start.ensures _ c.in-Ok.is) in
    record { set_len = (p.long, omega (arith, c.if-state-lt564.false)); rows_bound = (p.rows-most, p.cols-most); octave_bound = p.octave-most }

pub returns-in-Err : goal.returns-in-Err
returns-in-Err c =
    let a = c.args in
    rw c.from.ensures (start-bad a.set.now a.thresholds a.rows a.cols a.octave (length a.r0.now) (length a.r1.now) (length a.r2.now) (length a.r3.now) a.state.now _ (own-answer a.set.now a.thresholds a.rows a.cols a.octave (length a.r0.now) (length a.r1.now) (length a.r2.now) (length a.r3.now) a.state.now _ _ c.read_or_blank-tables.ensures c.feed_start.ensures _ c.in-Err.is))

pub returns-else-state-lt564 : goal.returns-else-state-lt564
returns-else-state-lt564 c =
    let a = c.args in
    rw c.write_state.ensures (start_fine a.set.now a.thresholds a.rows a.cols a.octave (length a.r0.now) (length a.r1.now) (length a.r2.now) (length a.r3.now) a.state.now (own-answer a.set.now a.thresholds a.rows a.cols a.octave (length a.r0.now) (length a.r1.now) (length a.r2.now) (length a.r3.now) a.state.now _ _ c.read_or_blank-tables.ensures c.feed_start.ensures _ c.in-Ok.is) (omega (arith, c.if-state-lt564.false)))
