-- `float::small::min` meets its contract. Assumes nothing.
use mathlib.Core.Path.{◌≡◌, sym, ◌∙◌}
use mathlib.Core.Bool.{true, false}
use lib.Ieee.{Float, lt, ne}
use Rattle.float.specs.Small.{min_of}
use Rattle.float.proofs.Floats.{ne_self}
use Rattle.float.proofs.small.min.Goals as goal

left-nan : (a b : Float) → ne a a ≡ true → b ≡ min_of a b
unfolding min_of
left-nan a b n = rw (sym (ne_self a) ∙ n)

right : (a b : Float) → ne a a ≡ false → lt b a ≡ true → b ≡ min_of a b
unfolding min_of
right a b n h = rw (sym (ne_self a) ∙ n, h)

left : (a b : Float) → ne a a ≡ false → lt b a ≡ false → a ≡ min_of a b
unfolding min_of
left a b n h = rw (sym (ne_self a) ∙ n, h)

pub returns-then-a : goal.returns-then-a
returns-then-a c = left-nan c.args.a c.args.b c.if-a.true

pub returns-then-b-a : goal.returns-then-b-a
returns-then-b-a c = right c.args.a c.args.b c.if-a.false c.if-b-a.true

pub returns-else-b-a : goal.returns-else-b-a
returns-else-b-a c = left c.args.a c.args.b c.if-a.false c.if-b-a.false
