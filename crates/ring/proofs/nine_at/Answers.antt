-- `nine_at` meets its contract: the places of four slots and of the column given.
use Prim.Native.Nat.{ℕ, ◌+◌, ◌-◌}
use native.Mathlib.Omega.{arith}
use mathlib.Core.Path.{◌≡◌, sym, ap, ◌∙◌}
use Rattle.samples.specs.Level.{nine_of}
use Rattle.samples.specs.Map.{four_in}
use Rattle.ring.specs.Ring.{samples_fed}
use Rattle.ring.proofs.RingLaws.{ring_beside, nine_fed_lem}
use Rattle.ring.proofs.nine_at.Goals as goal

pub nine_by-requires : goal.nine_by-requires
nine_by-requires c =
    let u = c.slot-u.ensures in
    let x = c.slot-x.ensures in
    let y = c.slot-y.ensures in
    let z = c.slot-z.ensures in
    let room = c.requires.le_row in
    ring_beside (c.args.row - 1) 0 c.requires.lent (omega (arith, room.0)) (omega (arith, room.0, room.1)) (u.1, u.2) (x.1, x.2) (y.1, y.2) (z.1, z.2)

pub returns : goal.returns
returns c =
    let a = c.args in
    let p = c.requires in
    let ring = four_in a.ring.now in
    let given = four_in a.given.now in
    let own : a.row - 1 + 0 + 1 ≡ a.row = omega (arith, p.le_row.0) in
    c.nine_by.ensures
    ∙ sym (nine_fed_lem ring given a.rows a.n a.g (a.row - 1) p.le_n.0 (omega (arith, p.le_row.0)) c.slot-u.ensures.0 c.slot-x.ensures.0 c.slot-y.ensures.0 c.slot-z.ensures.0 0)
    ∙ ap (λ (row : ℕ). nine_of (samples_fed ring given a.rows a.n a.g) row (a.n - 2)) own
