-- The two things that depend on the other desk really do: a claim on a new table, and a run of map M. Assumes nothing.
use Rattle.std.specs.Prelude.{Ok, Err}
use Prim.Native.Nat.{ℕ, ◌<◌}
use native.Mathlib.Omega.{arith}
use mathlib.Core.Bool.{true}
use mathlib.Core.Path.{◌≡◌, refl, ap, ◌∙◌}
use mathlib.Core.List.{List}
use lib.ListN.{replicate}
use lib.Count.{count_leading_zeros}
use lib.Ieee.{of_bits, to_bits, of_fields, of_int, odd, size, round, add, sub, mul, div, neg, lt, le, eq, ne, is_nan}
use Rattle.float.specs.Small.{finite, abs_of, min_of, max_of, clamp_of}
use Rattle.float.specs.Root.{near_root, nearer, isqrt, root_by, digit}
use Rattle.float.specs.Sqrt.{sqrt_of, root_units, in_units, scale, radicand}
use Rattle.tables.specs.Set.{every, rising, all_set, good, blank, set_of, spare_zero, good_record}
use Rattle.tables.specs.Refusal as refused
use Rattle.tables.specs.SetT.{values, sigmas_t, cubic_t, row, block_t, numbers_t, set_t}
use Rattle.words.specs.Words.{word_bytes, half_bytes, float_bytes, word_from, float_from, floats_at}
use Rattle.record.specs.Layout.{floats4, old_bytes, record_bytes, record_with, record_from, bytes_of, laid}
use Rattle.record.specs.Readable as readable
use Rattle.fit.specs.Cubic.{row_of, coeffs_of, horner_of, discriminant_of, curvature_of}
use Rattle.fit.specs.Band.{band_by, finite_cubic, sign_of, stationary_of, better_by, extreme_by}
use Rattle.fit.specs.Envelope.{within, ends_by, put_low, put_high, turn_of, first_of, second_of, turns_of, shape_by, envelope_by}
use Rattle.fit.specs.Owns.{owns_by}
use Rattle.moves.specs.Moves.{kept_of}
use Rattle.refine.specs.Refine as refined
use Rattle.pixel.specs.Gate.{sigma_of, peak_of, strong_of, curved_of, gate_by}
use Rattle.pixel.specs.Ring.{all_of, beats_by, ring_by}
use Rattle.pixel.specs.Verdict.{cubics_of, whole_place, whole_of, anchor_of, polarity_of, record_of, admit_of, verdict_by}
use Rattle.grid.specs.Grid.{pixel_at}
use Rattle.samples.specs.Level.{stencil_of, sample_at, samples_of, places_of}
use Rattle.checks.specs.Checks.{detect_checks}
use Rattle.pixel.specs.Listed.{listed}
use Rattle.detect.specs.Due as dues
use Rattle.cases.specs.MapM.{zeros, put, level_m, thresholds_of, thresholds_m, map_m, old_m, bytes_m}
use Rattle.detect.specs.Detect.{detected}
use Rattle.desks.specs.Table.{slot_of}
use Rattle.desks.specs.Desks as desk
use Rattle.tables.specs.declared.Refusal.TheVariants.{NotYours}
use Rattle.detect.specs.Detect.{Outcome, detect_of}
use Rattle.desks.specs.Desks.{Claim, Write, top}
use Rattle.apart.proofs.Exceptions.{claims_depend, runs_depend}
use Rattle.desk_cases.specs.Desks.{floats_bytes, set_record, record_t, record_flat, holding, empty, ran_m}

-- ---- a claim

daily_usable : desk.usable 1 0 (empty 0 0) ≡ true
unfolding desk.usable empty holding word_bytes
daily_usable = refl

reprocessing_usable : desk.usable 2 0 (empty 0 0) ≡ true
unfolding desk.usable empty holding word_bytes
reprocessing_usable = refl

free : (slot_of (empty 0 0) 0).owner ≡ 0
unfolding slot_of empty holding word_bytes
free = refl

unwritten : (slot_of (empty 0 0) 0).count ≡ 0
unfolding slot_of empty holding word_bytes word_from
unwritten = refl

-- the daily desk's claim of slot 0 of a new table is done; after the other desk's claim it is 11
pub claims_really_depend : ((desk.call_of Claim (empty 0 0) 1 0).answer ≡ Ok tt) × ((desk.call_of Claim (desk.call_of Claim (empty 0 0) 2 0).table 1 0).answer ≡ Err NotYours)
claims_really_depend =
    let room : (slot_of (empty 0 0) 0).count < top = omega (arith, unwritten) in
    claims_depend 1 2 0 (empty 0 0) daily_usable reprocessing_usable (λ e. omega (arith, e)) free room

-- ---- a run

t_written : (desk.call_of (Write record_t) (empty 2 1) 2 0).answer ≡ Ok tt
unfolding desk.usable desk.needed desk.call_checks desk.call_of desk.finished desk.stored desk.zeros slot_of refused.first_of refused.unless refused.number good_record spare_zero set_of floats_at float_from word_from word_bytes float_bytes good all_set rising every finite lt of_bits to_bits of_fields odd size values sigmas_t cubic_t row block_t numbers_t set_t floats_bytes set_record record_t holding empty
t_written = refl

flat-written : (desk.call_of (Write record_flat) (empty 2 1) 2 0).answer ≡ Ok tt
unfolding desk.usable desk.needed desk.call_checks desk.call_of desk.finished desk.stored desk.zeros slot_of refused.first_of refused.unless refused.number good_record spare_zero set_of floats_at float_from word_from word_bytes float_bytes good all_set rising every finite lt of_bits to_bits of_fields odd size values sigmas_t cubic_t row block_t numbers_t set_t floats_bytes set_record record_t holding empty record_flat
flat-written = refl

-- map M under a set, into 48 zeros
abbrev detected_m : List ℕ → Outcome
detected_m bytes = detect_of (set_of bytes) thresholds_m 9 10 0 level_m (put 4 4 0xbe800000 zeros) zeros zeros (replicate 48 0)

t_detected : (detected_m record_t).answer ≡ Ok 1
unfolding record_flat floats_bytes set_record record_t detected detect_checks refused.read_set_of refused.read_or_blank refused.refused_set good_record spare_zero set_of floats_at float_from word_from laid old_m old_bytes kept_of record_with refused.value refused.cause_of half_bytes record_from bytes_m map_m thresholds_m thresholds_of level_m put zeros refused.first_of refused.unless refused.any_nan dues.due dues.rows_due dues.row_due dues.pixel_due listed dues.judge_of pixel_at stencil_of sample_at samples_of places_of cubics_of whole_place whole_of anchor_of polarity_of admit_of verdict_by all_of beats_by ring_by sigma_of peak_of strong_of curved_of gate_by refined.value_of refined.values_of refined.edge_of refined.index_of refined.sum_from refined.block_of refined.term_of refined.row_sum_by refined.spatial_by refined.denominator_of refined.steep_of refined.delta_yOf refined.delta_xOf refined.nearby refined.placed_of refined.moved_of refined.refine_by readable.finite_record readable.within readable.on_side readable.readable word_bytes float_bytes floats4 record_bytes bytes_of horner_of coeffs_of row_of discriminant_of curvature_of band_by extreme_by better_by stationary_of sign_of finite_cubic envelope_by shape_by turns_of first_of second_of turn_of put_low put_high ends_by within owns_by set_t numbers_t block_t row cubic_t sigmas_t values refused.number good all_set rising every blank sqrt_of root_units in_units scale radicand near_root nearer isqrt root_by digit finite abs_of min_of max_of clamp_of of_bits to_bits of_fields of_int odd size round add sub mul div neg lt le eq ne is_nan count_leading_zeros record_of detect_of
t_detected = refl

flat-detected : (detected_m record_flat).answer ≡ Ok 0
unfolding record_flat floats_bytes set_record record_t detected detect_checks refused.read_set_of refused.read_or_blank refused.refused_set good_record spare_zero set_of floats_at float_from word_from laid old_m old_bytes kept_of record_with refused.value refused.cause_of half_bytes record_from bytes_m map_m thresholds_m thresholds_of level_m put zeros refused.first_of refused.unless refused.any_nan dues.due dues.rows_due dues.row_due dues.pixel_due listed dues.judge_of pixel_at stencil_of sample_at samples_of places_of cubics_of whole_place whole_of anchor_of polarity_of admit_of verdict_by all_of beats_by ring_by sigma_of peak_of strong_of curved_of gate_by refined.value_of refined.values_of refined.edge_of refined.index_of refined.sum_from refined.block_of refined.term_of refined.row_sum_by refined.spatial_by refined.denominator_of refined.steep_of refined.delta_yOf refined.delta_xOf refined.nearby refined.placed_of refined.moved_of refined.refine_by readable.finite_record readable.within readable.on_side readable.readable word_bytes float_bytes floats4 record_bytes bytes_of horner_of coeffs_of row_of discriminant_of curvature_of band_by extreme_by better_by stationary_of sign_of finite_cubic envelope_by shape_by turns_of first_of second_of turn_of put_low put_high ends_by within owns_by set_t numbers_t block_t row cubic_t sigmas_t values refused.number good all_set rising every blank sqrt_of root_units in_units scale radicand near_root nearer isqrt root_by digit finite abs_of min_of max_of clamp_of of_bits to_bits of_fields of_int odd size round add sub mul div neg lt le eq ne is_nan count_leading_zeros record_of detect_of
flat-detected = refl

after_write : (new : List ℕ) → (desk.call_of (Write new) (empty 2 1) 2 0).answer ≡ Ok tt → ran_m (desk.call_of (Write new) (empty 2 1) 2 0).table 0 0 ≡ detected_m new
unfolding ran_m
after_write new done = runs_depend 2 0 new (empty 2 1) done thresholds_m 9 10 0 level_m (put 4 4 0xbe800000 zeros) zeros zeros (replicate 48 0)

-- a run of map M from reprocessing's slot 0 lists a spot after its write of set T there, and none after its write of the flat set
pub runs_really_depend : ((ran_m (desk.call_of (Write record_t) (empty 2 1) 2 0).table 0 0).answer ≡ Ok 1) × ((ran_m (desk.call_of (Write record_flat) (empty 2 1) 2 0).table 0 0).answer ≡ Ok 0)
runs_really_depend = (
  ap (λ (o : Outcome). o.answer) (after_write record_t t_written) ∙ t_detected,
  ap (λ (o : Outcome). o.answer) (after_write record_flat flat-written) ∙ flat-detected,
)
