-- `detect_from` meets its contract.
use native.Mathlib.Omega.{arith}
use mathlib.Core.Path.{sym, ◌∙◌}
use Rattle.input.proofs.InputLaws.{checks_tile, length-start}
use Rattle.lister.proofs.DetectLaws.{detect_parts}
use Rattle.lister.proofs.detect_from.Goals as goal

pub count_from-rows-requires : goal.count_from-rows-requires
count_from-rows-requires c = let t = checks_tile _ c.requires in omega arith

pub count_from-cols-requires : goal.count_from-cols-requires
count_from-cols-requires c = let t = checks_tile _ c.requires in omega arith

pub count_from-octave-requires : goal.count_from-octave-requires
count_from-octave-requires c = let t = checks_tile _ c.requires in omega arith

pub set_from-set-requires : goal.set_from-set-requires
set_from-set-requires c = let t = checks_tile _ c.requires in omega arith

pub thresholds_from-thresholds-requires : goal.thresholds_from-thresholds-requires
thresholds_from-thresholds-requires c = let t = checks_tile _ c.requires in omega arith

pub slice_bounds-detect-end : goal.slice_bounds-detect-end
slice_bounds-detect-end c = sym (length-start _ 0 c.area_from-n.ensures.0 c.level_from-l0.ensures)

pub slice_bounds-detect-end-2 : goal.slice_bounds-detect-end-2
slice_bounds-detect-end-2 c = sym (length-start _ 1 c.area_from-n.ensures.0 c.level_from-l1.ensures)

pub slice_bounds-detect-end-3 : goal.slice_bounds-detect-end-3
slice_bounds-detect-end-3 c = sym (length-start _ 2 c.area_from-n.ensures.0 c.level_from-l2.ensures)

pub slice_bounds-detect-end-4 : goal.slice_bounds-detect-end-4
slice_bounds-detect-end-4 c = sym (length-start _ 3 c.area_from-n.ensures.0 c.level_from-l3.ensures)

pub returns : goal.returns
returns c =
    c.detect.ensures
    ∙ detect_parts _ _
    c.level_from-l0.result
    c.level_from-l1.result
    c.level_from-l2.result
    c.level_from-l3.result
    c.set_from-set.ensures
    c.thresholds_from-thresholds.ensures
    c.count_from-rows.ensures
    c.count_from-cols.ensures
    c.count_from-octave.ensures
    c.area_from-n.ensures.0
    c.level_from-l0.ensures
    c.level_from-l1.ensures
    c.level_from-l2.ensures
    c.level_from-l3.ensures
