-- A listed spot's home is the pixel that it was found at or one of the eight around it. Assumes nothing: a displacement of at most 0.6 stays between the two pixels beside (Displaced).
use Prim.Native.Nat.{ℕ, ◌+◌, ◌-◌, ◌/◌, ◌%◌, ◌≤◌, ◌<◌}
use native.Mathlib.Omega.{arith}
use native.Mathlib.Nat.{le_trans, le_of_eq, mul-one, mul-le-mul_right}
use mathlib.Core.Path.{◌≡◌, sym, subst}
use mathlib.Core.Bool.{Bool, true}
use mathlib.Core.List.{List}
use lib.IntN.{pos}
use lib.Ieee.{Float, binary32, of_int}
use lib.Ieee.Positive.{num, den}
use Rattle.float.specs.Num.{◌⊕◌}
use Rattle.float.proofs.Floats.{whole-value}
use Rattle.float.proofs.Order.{at_least}
use Rattle.whole.specs.Nearest.{largest, nearest_of}
use Rattle.whole.proofs.NearestLaws.{nearest_least}
use Rattle.tables.specs.declared.Set.{Set}
use Rattle.tables.specs.declared.Thresholds.{Thresholds}
use Rattle.refine.specs.Refine.{nearby}
use Rattle.refine.proofs.RefineLaws.{accepted_displaced}
use Rattle.record.specs.declared.Record.{Record}
use Rattle.sized.specs.Sized.{home_of}
use Rattle.sized.proofs.HomeLaws.{on_side_lem, side_under}
use Rattle.pixel.specs.declared.Frame.{Frame}
use Rattle.pixel.specs.Verdict.{anchor_of, record_of}
use Rattle.pixel.specs.Rules.{Admits}
use Rattle.samples.specs.Level.{Maps, Within}
use Rattle.detect.specs.Due.{due}
use Rattle.demands.specs.List.{Stands}
use Rattle.demands.proofs.Listed.{list_is, own_key}
use Rattle.admission.specs.Place.{Beside}
use Rattle.admission.proofs.Displaced.{displaced_on_side, displaced_not_below}

-- the number nearest to a pixel c that was moved
moved : (c : ℕ) (d : Float) → 0 < c → c + 2 ≤ 4096 → nearby d ≡ true → (c ≤ nearest_of (of_int binary32 (pos c) ⊕ d) + 1) × (nearest_of (of_int binary32 (pos c) ⊕ d) ≤ c + 1)
moved c d some few h =
    let x : Float = of_int binary32 (pos c) ⊕ d in
    let on = displaced_on_side (c + 2) c d some (omega arith) (omega arith) h in
    let bounds = on_side_lem (c + 2) x few on.1 in
    let under = side_under (c + 2) x (omega arith) few on.0 on.1 in
    let last : c + 2 - 1 ≤ largest = omega arith in
    let least = at_least x (of_int binary32 (pos (c - 1))) (c - 1) 1 (whole-value (c - 1) (omega arith)) on.0 (displaced_not_below c d some (omega arith) h) in
    let over = nearest_least x (c - 1) on.0 bounds.0 (le_trans bounds.1 (mul-le-mul_right (den x) last)) (le_trans least (le_of_eq (mul-one (num x)))) in
    (omega arith, omega arith)

-- the same of a float that is equal to it
moved-is : (c : ℕ) (x y : Float) → x ≡ y → (c ≤ nearest_of y + 1) × (nearest_of y ≤ c + 1) → (c ≤ nearest_of x + 1) × (nearest_of x ≤ c + 1)
moved-is c x y e p = subst (λ (z : Float). (c ≤ nearest_of z + 1) × (nearest_of z ≤ c + 1)) (sym e) p

-- A record that a judged pixel meets the rules with has its home there or beside it, on a map of sides to 4,096.
pub home_beside : (s : Set) (th : Thresholds) (f : Frame) (nine : List (List Float)) (row col : ℕ) (is_max : Bool) (r : Record)
    → f.rows ≤ 4096 → f.cols ≤ 4096 → Within 4 f row col → Admits s th f nine row col is_max r → Beside row col (home_of r)
unfolding anchor_of record_of home_of
home_beside s th f nine row col is_max r rows-most cols-most inside a =
    let place = accepted_displaced _ s th.ratio _ _ a.spot a.refinement in
    let across = moved-is col a.spot.x _ place.x (moved col _ (omega arith) (omega arith) place.x-passes) in
    let down = moved-is row a.spot.y _ place.y (moved row _ (omega arith) (omega arith) place.y-passes) in
    rw a.record_of_spot (record { row-least = down.0; row-most = down.1; col-least = across.0; col-most = across.1 })

-- So it is with each listed record, whose key tells the pixel.
pub listed_home_beside : (m : Maps) (r : Record) → m.frame.rows ≤ 4096 → m.frame.cols ≤ 4096 → Stands (due m) r
    → Beside (r.key / m.frame.cols) (r.key % m.frame.cols) (home_of r)
listed_home_beside m r rows-most cols-most h =
    let a = (list_is m r).0 h in
    let own = (own_key m a.row a.col a.is_max r a.judged a.rules).1 in
    rw (own.row_is, own.col-is) (home_beside m.set m.thresholds m.frame _ a.row a.col a.is_max r rows-most cols-most a.judged a.rules)
