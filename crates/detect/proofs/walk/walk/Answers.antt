-- `walk::walk` meets its contract. The loop's invariant: what the first j judged rows list is taken.
use native.Mathlib.Omega.{arith}
use native.Mathlib.Numerals.{add-one}
use mathlib.Core.Path.{sym, ◌∙◌}
use Prim.Native.Nat.{ℕ}
use lib.ListN.{length-replicate}
use Rattle.samples.specs.Map.{maps_in}
use Rattle.sweep.proofs.PassLaws.{block_next}
use Rattle.detect.specs.Due.{rows_due}
use Rattle.detect.proofs.DueLaws.{rows_due-short}
use Rattle.detect.proofs.StopLaws.{rows_stay}
use Rattle.detect.proofs.walk.walk.Goals as goal

pub loop-j-init : goal.loop-j-init
unfolding rows_due
loop-j-init g c = (omega arith, g.T.Taker.laws.none _, length-replicate {A = ℕ} 131072 0, λ h. let z : ⊥ = omega arith in absurd z)

pub returns-then-is_full : goal.returns-then-is_full
returns-then-is_full g c =
    let l = c.loop-j in
    rows_stay g.T.Taker.laws _ _ (sym c.is_full.ensures ∙ c.if-is_full.true) (maps_in c.args.map.now) _ _ l.invariant.0 l.invariant.1

pub row-requires-clause-room : goal.row-requires-clause-room
row-requires-clause-room g c =
    let m = c.args.map.now in
    let l = c.loop-j in
    omega (arith, m.sized.rows-most, c.requires.n_bound, c.requires.room, g.T.Taker.laws.room_left _ _ _ l.invariant.1, rows_due-short (maps_in m) l.j m.sized.cols-most)

pub loop-j-preserved : goal.loop-j-preserved
unfolding rows_due
loop-j-preserved g c = (
  omega arith,
  rw add-one (g.T.Taker.laws.parts _ _ _ _ _ c.loop-j.invariant.1 c.row.ensures),
  c.refresh.ensures.long,
  block_next c.loop-j.j c.refresh.ensures,
)
