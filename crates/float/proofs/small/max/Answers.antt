-- `float::small::max` meets its contract. Assumes nothing.
use mathlib.Core.Path.{◌≡◌, sym, ◌∙◌}
use mathlib.Core.Bool.{true, false}
use lib.Ieee.{Float, lt, ne}
use Rattle.float.specs.Small.{max_of}
use Rattle.float.proofs.Floats.{ne_self}
use Rattle.float.proofs.small.max.Goals as goal

left-nan : (a b : Float) → ne a a ≡ true → b ≡ max_of a b
unfolding max_of
left-nan a b n = rw (sym (ne_self a) ∙ n)

right : (a b : Float) → ne a a ≡ false → lt a b ≡ true → b ≡ max_of a b
unfolding max_of
right a b n h = rw (sym (ne_self a) ∙ n, h)

left : (a b : Float) → ne a a ≡ false → lt a b ≡ false → a ≡ max_of a b
unfolding max_of
left a b n h = rw (sym (ne_self a) ∙ n, h)

pub returns-then-a : goal.returns-then-a
returns-then-a c = left-nan c.args.a c.args.b c.if-a.true

pub returns-then-a-b : goal.returns-then-a-b
returns-then-a-b c = right c.args.a c.args.b c.if-a.false c.if-a-b.true

pub returns-else-a-b : goal.returns-else-a-b
returns-else-a-b c = left c.args.a c.args.b c.if-a.false c.if-a-b.false
