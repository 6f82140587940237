-- `quick::guessed::doubled` meets its contract. Assumes nothing.
use Rattle.std.proofs.Common.{◌≡◌, ℕ, ◌+◌, Bool, true, false, cond, refl, ap, ◌∙◌, add-zero, arith}
use Rattle.quick.proofs.guessed.doubled.Goals as goal

twice : (t : Bool) (m : ℕ) → m + cond t m 0 ≡ cond t (m + m) m
twice true m = refl
twice false m = add-zero m

pub returns : goal.returns
returns c = let s = c.args in (ap (λ (n : ℕ). s.m + n) c.some.ensures.0 ∙ twice s.odd s.m, omega (arith, c.some.ensures.1))
