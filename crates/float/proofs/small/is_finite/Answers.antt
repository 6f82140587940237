-- `float::small::is_finite` meets its contract. Assumes nothing.
use mathlib.Core.Path.{◌≡◌, refl}
use mathlib.Core.Bool.{true, false, true≢false, false≢true}
use lib.Ieee.{Float, nan, inf, fin, lt, neg}
use Rattle.float.specs.Small.{finite}
use Rattle.float.proofs.Floats.{inf-is}
use Rattle.float.proofs.small.is_finite.Goals as goal

under : (x : Float) → lt x (inf false) ≡ true → lt (neg (inf false)) x ≡ finite x
unfolding lt neg finite
under nan h = refl
under (inf true) h = refl
under (inf false) h = absurd (false≢true h)
under (fin s m e) h = refl

over : (x : Float) → lt x (inf false) ≡ false → false ≡ finite x
unfolding lt finite
over nan h = refl
over (inf true) h = refl
over (inf false) h = refl
over (fin s m e) h = absurd (true≢false h)

pub returns-then-x-top : goal.returns-then-x-top
returns-then-x-top c = rw inf-is (under c.args.x (rw inf-is at c.if-x-top.true))

pub returns : goal.returns
returns c = over c.args.x (rw inf-is at c.if-x-top.false)
