-- `parts::numbers` meets its contract. The loop's invariant: the first j numbers are written.
use Prim.Native.Nat.{ℕ, ◌+◌}
use native.Mathlib.Omega.{arith}
use lib.Ieee.{nan}
use lib.ListN.{length-set}
use Rattle.std.proofs.lemmas.List.Edits.{fill_by_more}
use Rattle.std.proofs.lemmas.List.FromFn.{fill_by_all}
use Rattle.fit.specs.Cubic.{◌at◌}
use Rattle.probe.proofs.parts.numbers.Goals as goal

pub loop-j-preserved : goal.loop-j-preserved
loop-j-preserved g c =
    let l = c.loop-j in
    let a = c.args in
    (simp length-set l.invariant.0, rw c.number_at.ensures (fill_by_more (λ (k : ℕ). a.list.now at (a.i + k)) l.v l.j nan (omega (arith, l.invariant.0)) l.invariant.1))

pub returns : goal.returns
returns g c =
    let l = c.loop-j in
    let a = c.args in
    fill_by_all (λ (k : ℕ). a.list.now at (a.i + k)) l.v g.row.N nan l.invariant.0 (λ k h. l.invariant.1 k (omega (arith, h)))
