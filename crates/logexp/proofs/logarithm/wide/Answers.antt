-- `logexp::logarithm::wide` meets its contract. Assumes nothing.
use mathlib.Core.Path.{◌≡◌, ap}
use Prim.Native.Nat.{ℕ, ◌*◌, ◌%◌, ◌^◌}
use native.Mathlib.Nat.{mod-eq_of_lt}
use lib.Count.{count_leading_zeros}
use Rattle.float.proofs.Width.{Wide, wide_lead}
use Rattle.logexp.proofs.logarithm.wide.Goals as goal
use Rattle.logexp.proofs.logarithm.wide.Goals.{After-lead-g}

shape : (c : After-lead-g) → Wide c.lead-g.result (count_leading_zeros 32 c.lead-g.result)
shape c = wide_lead c.args.b c.lead-g.result c.requires.0 c.lead-g.ensures

pub overflow_shl-result : goal.overflow_shl-result
overflow_shl-result c = (shape (goal.at.overflow_shl-result c).After-lead-g).most

pub returns : goal.returns
returns c =
    let g = c.lead-g.result in
    let e : (g * 2 ^ count_leading_zeros 32 g) % 2 ^ 32 ≡ g * 2 ^ count_leading_zeros 32 g = mod-eq_of_lt (shape (goal.at.returns c).After-lead-g).high in
    rw e (ap (λ (x : ℕ). x * 2 ^ count_leading_zeros 32 x) c.lead-g.ensures, (shape (goal.at.returns c).After-lead-g).low, (shape (goal.at.returns c).After-lead-g).high)
