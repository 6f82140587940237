-- `fill` meets its contract.
use native.Mathlib.Omega.{arith}
use Rattle.tile.proofs.FillLaws.{fill_full, fits_all, stand, fill_whole}
use borrow.Author.Rules.{rules}
use Rattle.tile.proofs.fill.Goals as goal

pub overflow_mul-base : goal.overflow_mul-base
overflow_mul-base c =
    let a = c.args in
    omega (arith, c.well_formed.1.1.1.1.1.1.1.1.1.1.1.0.0, c.requires.fits.lies)

pub returns-then-free-n : goal.returns-then-free-n
returns-then-free-n c =
    let a = c.args in
    fill_full a.set a.th a.h a.w a.octave a.t0.now a.t1.now a.t2.now a.t3.now c.requires.small a.i a.j a.done a.out.now c.requires.fits c.found-n.result c.found-n.ensures.count c.if-free-n.true

pub overflow_mul-n : goal.overflow_mul-n
overflow_mul-n c =
    let a = c.args in
    omega (arith, c.well_formed.1.1.1.1.1.1.1.1.1.1.1.0.0, fits_all a.set a.th a.h a.w a.octave a.t0.now a.t1.now a.t2.now a.t3.now c.requires.small a.i a.j a.done a.out.now c.requires.fits c.found-n.result c.found-n.ensures.count c.if-free-n.false)

pub overflow_add-base : goal.overflow_add-base
overflow_add-base c =
    let a = c.args in
    omega (arith, c.well_formed.1.1.1.1.1.1.1.1.1.1.1.0.0, fits_all a.set a.th a.h a.w a.octave a.t0.now a.t1.now a.t2.now a.t3.now c.requires.small a.i a.j a.done a.out.now c.requires.fits c.found-n.result c.found-n.ensures.count c.if-free-n.false)

pub lay-requires : goal.lay-requires
lay-requires c =
    let a = c.args in
    record { small = c.requires.small; holds = c.found-n.ensures; held_len = search rules; spot_width_in_bounds = omega (arith, fits_all a.set a.th a.h a.w a.octave a.t0.now a.t1.now a.t2.now a.t3.now c.requires.small a.i a.j a.done a.out.now c.requires.fits c.found-n.result c.found-n.ensures.count c.if-free-n.false) }

pub place_all-requires : goal.place_all-requires
place_all-requires c =
    let a = c.args in
    stand a.set a.th a.h a.w a.octave a.t0.now a.t1.now a.t2.now a.t3.now c.requires.small a.i a.j a.done a.out.now c.requires.fits c.found-n.result c.found-n.ensures.count c.if-free-n.false _ c.lay.ensures

pub overflow_add-result : goal.overflow_add-result
overflow_add-result c =
    let a = c.args in
    omega (arith, c.well_formed.1.1.1.1.1.1.1.1.1.1.1.0.0, fits_all a.set a.th a.h a.w a.octave a.t0.now a.t1.now a.t2.now a.t3.now c.requires.small a.i a.j a.done a.out.now c.requires.fits c.found-n.result c.found-n.ensures.count c.if-free-n.false)

pub returns : goal.returns
returns c =
    let a = c.args in
    fill_whole a.set a.th a.h a.w a.octave a.t0.now a.t1.now a.t2.now a.t3.now c.requires.small a.i a.j a.done a.out.now c.requires.fits c.found-n.result c.found-n.ensures.count c.if-free-n.false _ c.lay.ensures _ c.place_all.ensures
