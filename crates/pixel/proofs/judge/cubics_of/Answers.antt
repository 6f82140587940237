-- `judge::cubics_of` meets its contract.
use native.Mathlib.Numerals.{add-one}
use mathlib.Core.Path.{◌≡◌, refl, sym, ◌∙◌}
use mathlib.Core.List.{[]}
use Prim.Native.Nat.{◌≤◌, ◌<◌}
use native.Mathlib.Omega.{arith}
use lib.ListN.{length, length-set}
use lib.Seq.{take-suc, take-suc-set, take_all}
use Rattle.pixel.specs.Verdict.{cubics_of}
use Rattle.pixel.proofs.NineLaws.{cubics_snoc}
use Rattle.pixel.proofs.judge.cubics_of.Goals as goal

pub loop-i-init : goal.loop-i-init
unfolding cubics_of
loop-i-init c = (refl, refl)

pub offset_bounds-nine-i : goal.offset_bounds-nine-i
offset_bounds-nine-i c = omega arith

pub bounds-nine-i : goal.bounds-nine-i
bounds-nine-i c = omega arith

pub offset_bounds-k-i : goal.offset_bounds-k-i
offset_bounds-k-i c = omega arith

pub bounds-k-i : goal.bounds-k-i
bounds-k-i c = omega arith

pub loop-i-smaller : goal.loop-i-smaller
loop-i-smaller c = omega arith

pub loop-i-preserved : goal.loop-i-preserved
loop-i-preserved c =
    let l = c.loop-i in
    let long : length c.args.nine ≡ 9 = c.well_formed.1.0.1.0.1 in
    let below : l.i < length l.k = omega arith in
    let inside : l.i < length c.args.nine = omega arith in
    (simp length-set l.invariant.0, rw (add-one, take-suc-set l.k l.i c.apply_cubic_transform-c.result below, l.invariant.1, c.apply_cubic_transform-c.ensures, take-suc c.args.nine l.i [] inside, cubics_snoc))

pub returns : goal.returns
returns c =
    let l = c.loop-i in
    let long : length c.args.nine ≡ 9 = c.well_formed.1.0.1.0.1 in
    let all : length l.k ≤ l.i = omega arith in
    let places : length c.args.nine ≤ l.i = omega arith in
    sym (take_all l.i l.k all) ∙ l.invariant.1 ∙ rw (take_all l.i c.args.nine places)
