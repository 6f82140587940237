-- The worked cases hold, by computation. Assumes nothing.
use mathlib.Core.Path.{◌≡◌, refl}
use mathlib.Core.List.{map}
use lib.Count.{count_leading_zeros}
use lib.Ieee.{of_bits, to_bits, of_fields, of_int, odd, size, round, add, sub, mul, div, neg, lt, le, eq, ne, is_nan}
use Rattle.float.specs.Small.{finite, abs_of, min_of, max_of, clamp_of}
use Rattle.float.specs.Root.{near_root, nearer, isqrt, root_by, digit}
use Rattle.float.specs.Sqrt.{sqrt_of, root_units, in_units, scale, radicand}
use Rattle.logexp.specs.Log.{squared, digits_of, scaled_of, joined, log2_pos, log2_of}
use Rattle.logexp.specs.Exp.{fixed_of, series_of, capped, exp_up, exp_down, below_one, exp_of}
use Rattle.whole.specs.Nearest.{saturated, nearest_to, nearest_of}
use Rattle.tables.specs.Set.{every, rising, all_set, good, blank}
use Rattle.tables.specs.Refusal as refusals
use Rattle.tables.specs.SetT.{values, sigmas_t, cubic_t, row, block_t, numbers_t, set_t}
use Rattle.words.specs.Words.{word_bytes, half_bytes, float_bytes, word_from, float_from}
use Rattle.record.specs.Layout.{floats4, old_bytes, record_bytes, record_with, record_from, bytes_of, laid}
use Rattle.record.specs.Readable as readable
use Rattle.fit.specs.Cubic.{row_of, coeffs_of, horner_of, discriminant_of, curvature_of}
use Rattle.fit.specs.Band.{band_by, finite_cubic, sign_of, stationary_of, better_by, extreme_by}
use Rattle.fit.specs.Envelope.{within, ends_by, put_low, put_high, turn_of, first_of, second_of, turns_of, shape_by, envelope_by}
use Rattle.fit.specs.Owns.{owns_by}
use Rattle.moves.specs.Moves.{kept_of}
use Rattle.refine.specs.Refine as refined
use Rattle.profile.specs.Four.{squares_of, less_of, over_of, roots_of, products_of, quotients_of, sum_of, mean_of, spread_of, dot_of, energy_of, largest_by, all_finite, all_above, all_below, usable, all_usable}
use Rattle.profile.specs.Profile as profile
use Rattle.profile.specs.Causes as causes
use Rattle.size.specs.Correct.{geometry_of, no_blend, blend_of, beta_of, blend_beta_by, bounded_of, weight_of, signed_root, model_of, proposal_of, model_move_of, derivative_of, right_polarity, place_of, sigma_at, accepted, gain_of, gained, flatter, better, chosen_of, trusted, in_range, moved_of, corrected_by, answer_of, correct_by}
use Rattle.sized.specs.Sized.{given_sigma, accepted_of, missing_of, size_of, home_of, tail_bytes, sized_bytes}
use Rattle.pyramid.specs.Pyramid.{octaves_of, octave_count_of}
use Rattle.pixel.specs.Gate.{sigma_of, peak_of, strong_of, curved_of, gate_by}
use Rattle.pixel.specs.Ring.{all_of, beats_by, ring_by}
use Rattle.pixel.specs.Verdict.{cubics_of, whole_place, whole_of, anchor_of, polarity_of, record_of, admit_of, verdict_by}
use Rattle.grid.specs.Grid.{pixel_at, list_of, columns_of}
use Rattle.kernels.specs.Kernel as kernels
use Rattle.blur.specs.Blur.{pass_to, across_at, level_at, level_of}
use Rattle.levels.specs.Levels.{levels_checks}
use Rattle.samples.specs.Level.{stencil_of, sample_at, samples_of, places_of}
use Rattle.checks.specs.Checks.{detect_checks}
use Rattle.pixel.specs.Listed.{listed, both_listed}
use Rattle.ring.specs.Ring.{pixel_fed, sample_fed, samples_fed, pixel_spots, column_spots, judges, judged_spots}
use Rattle.feed.specs.Feed.{start_checks, started_by, start_of, past, cramped, column_checks, fed_by, column_of}
use Rattle.fed.specs.Run.{handed, state_after, bytes_after}
use Rattle.detect.specs.Due as dues
use Rattle.cases.specs.Case.{Case, root_case, log_case, nearest_case, value_case, extreme_case, count_case, of_envelope, envelope_case, of_statistic, statistic_case, of_correction, correction_case}
use Rattle.cases.specs.MapM.{zeros, put, level_m, thresholds_of, thresholds_m, map_m, old_m, bytes_m, minimum_m, small_m, map_case, sized_case, of_checked, checks_case}
use Rattle.cases.specs.Feeds.{start_case, column_m, columns_m, calls_m, ring_of, state_m, fed_case, of_answer, column_case}
use Rattle.tiles.specs.Tiles.{tiles_of, length_of}
use Rattle.scene_checks.specs.Checks.{scene_checks}
use Rattle.cases.specs.Scenes.{tiles_case, scene_case, home_case}
use Rattle.cases.specs.Raw.{radius_case, radii_case, tap_case, patterns, level_case, whole, whole_case, raw_case}
use Rattle.cases.specs.Table.{table}

pub table-holds : map (λ (c : Case). c.given) table ≡ map (λ (c : Case). c.due) table
unfolding old_m old_bytes kept_of record_with table tiles_case scene_case home_case scene_checks length_of tiles_of start_case column_m columns_m calls_m ring_of state_m fed_case of_answer column_case handed state_after bytes_after start_of started_by start_checks column_of column_checks fed_by past cramped judged_spots judges column_spots pixel_spots samples_fed sample_fed pixel_fed both_listed laid statistic_case of_statistic causes.place_of minimum_m small_m missing_of refusals.value refusals.cause_of radius_case radii_case tap_case patterns level_case whole whole_case raw_case levels_checks level_of level_at across_at pass_to columns_of list_of kernels.kernel_to kernels.left_of kernels.base_of kernels.gaussian_of kernels.single kernels.taps_of kernels.tap_of kernels.sum_of kernels.weight_of kernels.ceil_of sized_case sized_bytes tail_bytes half_bytes home_of size_of accepted_of given_sigma record_from float_from word_from nearest_case nearest_of nearest_to saturated checks_case of_checked map_case bytes_m map_m thresholds_m thresholds_of level_m put zeros detect_checks refusals.first_of refusals.unless refusals.any_nan root_case log_case value_case extreme_case count_case of_envelope envelope_case of_correction correction_case octave_count_of octaves_of dues.due dues.rows_due dues.row_due dues.pixel_due listed dues.judge_of pixel_at stencil_of sample_at samples_of places_of cubics_of whole_place whole_of anchor_of polarity_of record_of admit_of verdict_by all_of beats_by ring_by sigma_of peak_of strong_of curved_of gate_by refined.value_of refined.values_of refined.edge_of refined.index_of refined.sum_from refined.block_of refined.term_of refined.row_sum_by refined.spatial_by refined.denominator_of refined.steep_of refined.delta_yOf refined.delta_xOf refined.nearby refined.placed_of refined.moved_of refined.refine_by readable.finite_record readable.within readable.on_side readable.readable word_bytes float_bytes floats4 record_bytes bytes_of correct_by answer_of corrected_by moved_of in_range trusted chosen_of better flatter gained gain_of accepted sigma_at place_of right_polarity derivative_of model_move_of proposal_of model_of signed_root weight_of bounded_of blend_beta_by beta_of blend_of no_blend geometry_of profile.statistic_by profile.scaled_by profile.fitted_of profile.ratio_of profile.usable_energy profile.usable_line profile.usable_roots profile.usable_samples profile.residual_of all_usable usable all_below all_above all_finite largest_by energy_of dot_of spread_of mean_of sum_of quotients_of products_of roots_of over_of less_of squares_of horner_of coeffs_of row_of discriminant_of curvature_of band_by extreme_by better_by stationary_of sign_of finite_cubic envelope_by shape_by turns_of first_of second_of turn_of put_low put_high ends_by within owns_by set_t numbers_t block_t row cubic_t sigmas_t values refusals.number good all_set rising every blank exp_of exp_up exp_down below_one capped series_of fixed_of log2_of log2_pos joined scaled_of digits_of squared sqrt_of root_units in_units scale radicand near_root nearer isqrt root_by digit finite abs_of min_of max_of clamp_of of_bits to_bits of_fields of_int odd size round add sub mul div neg lt le eq ne is_nan count_leading_zeros
table-holds = refl
