-- `column` meets its contract, refusals and all.
use Rattle.std.specs.Prelude.{Ok, Err}
use mathlib.Core.Path.{ap, ◌∙◌}
use native.Mathlib.Omega.{arith}
use Rattle.samples.specs.Four.{four_of}
use Rattle.ring.specs.declared.State.{State}
use Rattle.feed.specs.Feed.{column_of}
use Rattle.states.specs.Bytes.{column_left_by}
use Rattle.states.proofs.CallLaws.{column_short, column_by, position_small}
use Rattle.states.proofs.column.Goals as goal

pub returns-then-state-lt564 : goal.returns-then-state-lt564
returns-then-state-lt564 c =
    let a = c.args in
    let given = four_of a.c0.now a.c1.now a.c2.now a.c3.now in
    let ring = four_of a.r0.now a.r1.now a.r2.now a.r3.now in
    rw c.from.ensures (column_short a.state.now given ring a.out.now c.if-state-lt564.true)

pub advance-requires : goal.advance-requires
advance-requires c =
    let a = c.args in
    let given = four_of a.c0.now a.c1.now a.c2.now a.c3.now in
    let ring = four_of a.r0.now a.r1.now a.r2.now a.r3.now in
    record { in_bounds = omega (arith, c.if-state-lt564.false); state_bound = position_small a.state.now given ring a.out.now (omega (arith, c.if-state-lt564.false)) _ _ _ _ (c.feed_column.ensures ∙ ap (λ (s : State). column_of s given ring a.out.now) c.state_of-s.ensures) _ c.in-Ok.is }

pub returns-in-Ok : goal.returns-in-Ok
unfolding column_left_by
returns-in-Ok c =
    let a = c.args in
    let given = four_of a.c0.now a.c1.now a.c2.now a.c3.now in
    let ring = four_of a.r0.now a.r1.now a.r2.now a.r3.now in
    rw c.advance.ensures (column_by a.state.now given ring a.out.now (omega (arith, c.if-state-lt564.false)) _ _ _ _ (c.feed_column.ensures ∙ ap (λ (s : State). column_of s given ring a.out.now) c.state_of-s.ensures) (Ok _) c.in-Ok.is)

pub returns-in-Err : goal.returns-in-Err
unfolding column_left_by
returns-in-Err c =
    let a = c.args in
    let given = four_of a.c0.now a.c1.now a.c2.now a.c3.now in
    let ring = four_of a.r0.now a.r1.now a.r2.now a.r3.now in
    rw (c.from-in-Err.ensures, c.value_of.ensures) (column_by a.state.now given ring a.out.now (omega (arith, c.if-state-lt564.false)) _ _ _ _ (c.feed_column.ensures ∙ ap (λ (s : State). column_of s given ring a.out.now) c.state_of-s.ensures) (Err _) c.in-Err.is)
