-- The cases of the table that two desks share hold, by computation. Assumes nothing.
use mathlib.Core.Path.{◌≡◌, refl}
use mathlib.Core.List.{map}
use lib.Count.{count_leading_zeros}
use lib.Ieee.{of_bits, to_bits, of_fields, of_int, odd, size, round, add, sub, mul, div, neg, lt, le, eq, ne, is_nan}
use Rattle.float.specs.Small.{finite, abs_of, min_of, max_of, clamp_of}
use Rattle.float.specs.Root.{near_root, nearer, isqrt, root_by, digit}
use Rattle.float.specs.Sqrt.{sqrt_of, root_units, in_units, scale, radicand}
use Rattle.tables.specs.Set.{every, rising, all_set, good, blank, set_of, spare_zero, good_record}
use Rattle.tables.specs.Refusal as refused
use Rattle.tables.specs.SetT.{values, sigmas_t, cubic_t, row, block_t, numbers_t, set_t}
use Rattle.words.specs.Words.{word_bytes, half_bytes, float_bytes, word_from, float_from, floats_at}
use Rattle.record.specs.Layout.{floats4, old_bytes, record_bytes, record_with, record_from, bytes_of, laid}
use Rattle.record.specs.Readable as readable
use Rattle.fit.specs.Cubic.{row_of, coeffs_of, horner_of, discriminant_of, curvature_of}
use Rattle.fit.specs.Band.{band_by, finite_cubic, sign_of, stationary_of, better_by, extreme_by}
use Rattle.fit.specs.Envelope.{within, ends_by, put_low, put_high, turn_of, first_of, second_of, turns_of, shape_by, envelope_by}
use Rattle.fit.specs.Owns.{owns_by}
use Rattle.moves.specs.Moves.{kept_of}
use Rattle.refine.specs.Refine as refined
use Rattle.pixel.specs.Gate.{sigma_of, peak_of, strong_of, curved_of, gate_by}
use Rattle.pixel.specs.Ring.{all_of, beats_by, ring_by}
use Rattle.pixel.specs.Verdict.{cubics_of, whole_place, whole_of, anchor_of, polarity_of, record_of, admit_of, verdict_by}
use Rattle.grid.specs.Grid.{pixel_at}
use Rattle.samples.specs.Level.{stencil_of, sample_at, samples_of, places_of}
use Rattle.checks.specs.Checks.{detect_checks}
use Rattle.pixel.specs.Listed.{listed}
use Rattle.detect.specs.Due as dues
use Rattle.cases.specs.Case.{Case}
use Rattle.cases.specs.MapM.{zeros, put, level_m, thresholds_of, thresholds_m, map_m, old_m, bytes_m}
use Rattle.detect.specs.Detect.{detected}
use Rattle.desks.specs.Table.{slot_of, runnable}
use Rattle.desks.specs.Desks as desk
use Rattle.desk_run.specs.Run.{run_checks, run_of}
use Rattle.desk_cases.specs.Desks.{floats_bytes, set_record, record_t, record_flat, holding, empty, told_case, seen, slot_case, ran_m, run_case, answers, left, refusals, spotted, unspotted}

pub desk_answers_hold : map (λ (c : Case). c.given) answers ≡ map (λ (c : Case). c.due) answers
unfolding answers told_case desk.usable desk.needed desk.call_checks desk.call_of desk.finished desk.stored desk.zeros slot_of refused.first_of refused.unless refused.number good_record spare_zero set_of floats_at float_from word_from word_bytes float_bytes good all_set rising every finite lt of_bits to_bits of_fields odd size values sigmas_t cubic_t row block_t numbers_t set_t floats_bytes set_record record_t holding empty
desk_answers_hold = refl

pub desk_slots_hold : map (λ (c : Case). c.given) left ≡ map (λ (c : Case). c.due) left
unfolding left slot_case seen desk.usable desk.needed desk.call_checks desk.call_of desk.finished desk.stored desk.zeros slot_of refused.first_of refused.unless refused.number good_record spare_zero set_of floats_at float_from word_from word_bytes float_bytes good all_set rising every finite lt of_bits to_bits of_fields odd size values sigmas_t cubic_t row block_t numbers_t set_t floats_bytes set_record record_t holding empty
desk_slots_hold = refl

pub desk_refusals_hold : map (λ (c : Case). c.given) refusals ≡ map (λ (c : Case). c.due) refusals
unfolding refusals ran_m run_case record_flat floats_bytes set_record record_t holding empty slot_of runnable desk.usable desk.needed desk.call_checks desk.stored desk.zeros desk.finished desk.call_of run_checks run_of detected detect_checks refused.read_set_of refused.read_or_blank refused.refused_set good_record spare_zero set_of floats_at float_from word_from laid old_m old_bytes kept_of record_with refused.value refused.cause_of half_bytes record_from bytes_m map_m thresholds_m thresholds_of level_m put zeros refused.first_of refused.unless refused.any_nan dues.due dues.rows_due dues.row_due dues.pixel_due listed dues.judge_of pixel_at stencil_of sample_at samples_of places_of cubics_of whole_place whole_of anchor_of polarity_of admit_of verdict_by all_of beats_by ring_by sigma_of peak_of strong_of curved_of gate_by refined.value_of refined.values_of refined.edge_of refined.index_of refined.sum_from refined.block_of refined.term_of refined.row_sum_by refined.spatial_by refined.denominator_of refined.steep_of refined.delta_yOf refined.delta_xOf refined.nearby refined.placed_of refined.moved_of refined.refine_by readable.finite_record readable.within readable.on_side readable.readable word_bytes float_bytes floats4 record_bytes bytes_of horner_of coeffs_of row_of discriminant_of curvature_of band_by extreme_by better_by stationary_of sign_of finite_cubic envelope_by shape_by turns_of first_of second_of turn_of put_low put_high ends_by within owns_by set_t numbers_t block_t row cubic_t sigmas_t values refused.number good all_set rising every blank sqrt_of root_units in_units scale radicand near_root nearer isqrt root_by digit finite abs_of min_of max_of clamp_of of_bits to_bits of_fields of_int odd size round add sub mul div neg lt le eq ne is_nan count_leading_zeros record_of
desk_refusals_hold = refl

pub spotted-holds : spotted.given ≡ spotted.due
unfolding spotted ran_m run_case record_flat floats_bytes set_record record_t holding empty slot_of runnable desk.usable desk.needed desk.call_checks desk.stored desk.zeros desk.finished desk.call_of run_checks run_of detected detect_checks refused.read_set_of refused.read_or_blank refused.refused_set good_record spare_zero set_of floats_at float_from word_from laid old_m old_bytes kept_of record_with refused.value refused.cause_of half_bytes record_from bytes_m map_m thresholds_m thresholds_of level_m put zeros refused.first_of refused.unless refused.any_nan dues.due dues.rows_due dues.row_due dues.pixel_due listed dues.judge_of pixel_at stencil_of sample_at samples_of places_of cubics_of whole_place whole_of anchor_of polarity_of admit_of verdict_by all_of beats_by ring_by sigma_of peak_of strong_of curved_of gate_by refined.value_of refined.values_of refined.edge_of refined.index_of refined.sum_from refined.block_of refined.term_of refined.row_sum_by refined.spatial_by refined.denominator_of refined.steep_of refined.delta_yOf refined.delta_xOf refined.nearby refined.placed_of refined.moved_of refined.refine_by readable.finite_record readable.within readable.on_side readable.readable word_bytes float_bytes floats4 record_bytes bytes_of horner_of coeffs_of row_of discriminant_of curvature_of band_by extreme_by better_by stationary_of sign_of finite_cubic envelope_by shape_by turns_of first_of second_of turn_of put_low put_high ends_by within owns_by set_t numbers_t block_t row cubic_t sigmas_t values refused.number good all_set rising every blank sqrt_of root_units in_units scale radicand near_root nearer isqrt root_by digit finite abs_of min_of max_of clamp_of of_bits to_bits of_fields of_int odd size round add sub mul div neg lt le eq ne is_nan count_leading_zeros record_of
spotted-holds = refl

pub unspotted-holds : unspotted.given ≡ unspotted.due
unfolding unspotted ran_m run_case record_flat floats_bytes set_record record_t holding empty slot_of runnable desk.usable desk.needed desk.call_checks desk.stored desk.zeros desk.finished desk.call_of run_checks run_of detected detect_checks refused.read_set_of refused.read_or_blank refused.refused_set good_record spare_zero set_of floats_at float_from word_from laid old_m old_bytes kept_of record_with refused.value refused.cause_of half_bytes record_from bytes_m map_m thresholds_m thresholds_of level_m put zeros refused.first_of refused.unless refused.any_nan dues.due dues.rows_due dues.row_due dues.pixel_due listed dues.judge_of pixel_at stencil_of sample_at samples_of places_of cubics_of whole_place whole_of anchor_of polarity_of admit_of verdict_by all_of beats_by ring_by sigma_of peak_of strong_of curved_of gate_by refined.value_of refined.values_of refined.edge_of refined.index_of refined.sum_from refined.block_of refined.term_of refined.row_sum_by refined.spatial_by refined.denominator_of refined.steep_of refined.delta_yOf refined.delta_xOf refined.nearby refined.placed_of refined.moved_of refined.refine_by readable.finite_record readable.within readable.on_side readable.readable word_bytes float_bytes floats4 record_bytes bytes_of horner_of coeffs_of row_of discriminant_of curvature_of band_by extreme_by better_by stationary_of sign_of finite_cubic envelope_by shape_by turns_of first_of second_of turn_of put_low put_high ends_by within owns_by set_t numbers_t block_t row cubic_t sigmas_t values refused.number good all_set rising every blank sqrt_of root_units in_units scale radicand near_root nearer isqrt root_by digit finite abs_of min_of max_of clamp_of of_bits to_bits of_fields of_int odd size round add sub mul div neg lt le eq ne is_nan count_leading_zeros record_of
unspotted-holds = refl
