-- `probe_blur` meets its contract.
use mathlib.Core.Path.{sym, ◌∙◌}
use Rattle.probe.specs.Blurs.{blur_face}
use Rattle.probe.proofs.Fitting.{fits, level_start}
use Rattle.probe.proofs.Numbers.{seventeen_taken}
use borrow.Author.Rules.{rules}
use Rattle.probe.proofs.blurs.probe_blur.Goals as goal

pub returns-then-misfit : goal.returns-then-misfit
unfolding blur_face
returns-then-misfit c = rw (← c.misfit.ensures, c.if-misfit.true)

pub two_levels-requires : goal.two_levels-requires
two_levels-requires c =
    let f = fits _ _ _ _ _ _ _ _ _ (sym c.misfit.ensures ∙ c.if-misfit.false) in
    record { plane = f.plane; radii = record { first = f.first; second = f.second } }

pub returns : goal.returns
unfolding blur_face
returns c =
    let none = sym c.misfit.ensures ∙ c.if-misfit.false in
    let p = (fits _ _ _ _ _ _ _ _ _ none).plane in
    let made = c.two_levels.ensures in
    let x = level_start _ _ _ _ _ p.room_a made.0 in
    let y = level_start _ _ _ _ _ p.room_b made.1 in
    rw (none, ← seventeen_taken c.args.taps.now, ← seventeen_taken c.args.taps2.now, ← c.numbers.ensures, ← c.numbers-2.ensures, x, y)
