-- Map M cut into tiles: its cases hold, by computation. Assumes nothing.
use mathlib.Core.Path.{◌≡◌, refl}
use lib.Count.{count_leading_zeros}
use lib.Ieee.{of_bits, to_bits, of_fields, of_int, odd, size, round, add, sub, mul, div, neg, lt, le, eq, ne, is_nan}
use Rattle.float.specs.Small.{finite, abs_of, min_of, max_of, clamp_of}
use Rattle.float.specs.Root.{near_root, nearer, isqrt, root_by, digit}
use Rattle.float.specs.Sqrt.{sqrt_of, root_units, in_units, scale, radicand}
use Rattle.logexp.specs.Log.{squared, digits_of, scaled_of, joined, log2_pos, log2_of}
use Rattle.logexp.specs.Exp.{fixed_of, series_of, capped, exp_up, exp_down, below_one, exp_of}
use Rattle.whole.specs.Nearest.{saturated, nearest_to, nearest_of}
use Rattle.tables.specs.Set.{every, rising, all_set, good, blank}
use Rattle.tables.specs.Refusal as refusals
use Rattle.tables.specs.SetT.{values, sigmas_t, cubic_t, row, block_t, numbers_t, set_t}
use Rattle.words.specs.Words.{word_bytes, half_bytes, float_bytes}
use Rattle.record.specs.Layout.{floats4, old_bytes, record_bytes, bytes_of}
use Rattle.record.specs.Readable as readable
use Rattle.fit.specs.Cubic.{row_of, coeffs_of, horner_of, discriminant_of, curvature_of}
use Rattle.fit.specs.Band.{band_by, finite_cubic, sign_of, stationary_of, better_by, extreme_by}
use Rattle.fit.specs.Envelope.{within, ends_by, put_low, put_high, turn_of, first_of, second_of, turns_of, shape_by, envelope_by}
use Rattle.fit.specs.Owns.{owns_by}
use Rattle.moves.specs.Moves.{kept_of}
use Rattle.refine.specs.Refine as refined
use Rattle.profile.specs.Four.{squares_of, less_of, over_of, roots_of, products_of, quotients_of, sum_of, mean_of, spread_of, dot_of, energy_of, largest_by, all_finite, all_above, all_below, usable, all_usable}
use Rattle.profile.specs.Profile as profile
use Rattle.size.specs.Correct.{geometry_of, no_blend, blend_of, beta_of, blend_beta_by, bounded_of, weight_of, signed_root, model_of, proposal_of, model_move_of, derivative_of, right_polarity, place_of, sigma_at, accepted, gain_of, gained, flatter, better, chosen_of, trusted, in_range, moved_of, corrected_by, answer_of}
use Rattle.sized.specs.Sized.{given_sigma, accepted_of, missing_of, size_of, home_of, tail_bytes, sized_bytes}
use Rattle.pixel.specs.Gate.{sigma_of, peak_of, strong_of, curved_of, gate_by}
use Rattle.pixel.specs.Ring.{all_of, beats_by, ring_by}
use Rattle.pixel.specs.Verdict.{cubics_of, whole_place, whole_of, anchor_of, polarity_of, record_of, admit_of, verdict_by}
use Rattle.grid.specs.Grid.{pixel_at}
use Rattle.samples.specs.Level.{stencil_of, sample_at, samples_of, places_of}
use Rattle.pixel.specs.Listed.{listed}
use Rattle.detect.specs.Due as dues
use Rattle.cases.specs.MapM.{zeros, put, thresholds_of, thresholds_m, old_m, bytes_m, of_checked}
use Rattle.tiles.specs.Tiles.{tiles_of, length_of}
use Rattle.tiles.specs.Copy.{gather, tile_level}
use Rattle.tile.specs.Numbered.{numbered_bytes, all_bytes}
use Rattle.turn.specs.Tiled.{tile_list, first_tiles}
use Rattle.scene_checks.specs.Checks.{scene_checks}
use Rattle.scene.specs.Scene as scenes
use Rattle.face_scene.specs.Face.{scene_packed}
use Rattle.cases.specs.Scenes.{spot_at, cut_m, of_after, cut_case, first_cut, second_cut, first_short, second_short}

pub first_cut_holds : first_cut.given ≡ first_cut.due
unfolding old_m old_bytes kept_of first_cut cut_case spot_at cut_m of_after scene_packed scenes.scene_of scenes.scene_by scenes.left_of scenes.copied_of scenes.answer_of scenes.whole_tiles scenes.copies_to scenes.bytes_to scene_checks first_tiles tile_list all_bytes numbered_bytes tile_level gather length_of tiles_of missing_of refusals.value refusals.cause_of sized_bytes tail_bytes half_bytes home_of size_of accepted_of given_sigma nearest_of nearest_to saturated of_checked bytes_m thresholds_m thresholds_of put zeros refusals.first_of refusals.unless refusals.any_nan dues.due dues.rows_due dues.row_due dues.pixel_due listed dues.judge_of pixel_at stencil_of sample_at samples_of places_of cubics_of whole_place whole_of anchor_of polarity_of record_of admit_of verdict_by all_of beats_by ring_by sigma_of peak_of strong_of curved_of gate_by refined.value_of refined.values_of refined.edge_of refined.index_of refined.sum_from refined.block_of refined.term_of refined.row_sum_by refined.spatial_by refined.denominator_of refined.steep_of refined.delta_yOf refined.delta_xOf refined.nearby refined.placed_of refined.moved_of refined.refine_by readable.finite_record readable.within readable.on_side readable.readable word_bytes float_bytes floats4 record_bytes bytes_of answer_of corrected_by moved_of in_range trusted chosen_of better flatter gained gain_of accepted sigma_at place_of right_polarity derivative_of model_move_of proposal_of model_of signed_root weight_of bounded_of blend_beta_by beta_of blend_of no_blend geometry_of profile.statistic_by profile.scaled_by profile.fitted_of profile.ratio_of profile.usable_energy profile.usable_line profile.usable_roots profile.usable_samples profile.residual_of all_usable usable all_below all_above all_finite largest_by energy_of dot_of spread_of mean_of sum_of quotients_of products_of roots_of over_of less_of squares_of horner_of coeffs_of row_of discriminant_of curvature_of band_by extreme_by better_by stationary_of sign_of finite_cubic envelope_by shape_by turns_of first_of second_of turn_of put_low put_high ends_by within owns_by set_t numbers_t block_t row cubic_t sigmas_t values refusals.number good all_set rising every blank exp_of exp_up exp_down below_one capped series_of fixed_of log2_of log2_pos joined scaled_of digits_of squared sqrt_of root_units in_units scale radicand near_root nearer isqrt root_by digit finite abs_of min_of max_of clamp_of of_bits to_bits of_fields of_int odd size round add sub mul div neg lt le eq ne is_nan count_leading_zeros
first_cut_holds = refl

pub second_cut_holds : second_cut.given ≡ second_cut.due
unfolding old_m old_bytes kept_of second_cut cut_case spot_at cut_m of_after scene_packed scenes.scene_of scenes.scene_by scenes.left_of scenes.copied_of scenes.answer_of scenes.whole_tiles scenes.copies_to scenes.bytes_to scene_checks first_tiles tile_list all_bytes numbered_bytes tile_level gather length_of tiles_of missing_of refusals.value refusals.cause_of sized_bytes tail_bytes half_bytes home_of size_of accepted_of given_sigma nearest_of nearest_to saturated of_checked bytes_m thresholds_m thresholds_of put zeros refusals.first_of refusals.unless refusals.any_nan dues.due dues.rows_due dues.row_due dues.pixel_due listed dues.judge_of pixel_at stencil_of sample_at samples_of places_of cubics_of whole_place whole_of anchor_of polarity_of record_of admit_of verdict_by all_of beats_by ring_by sigma_of peak_of strong_of curved_of gate_by refined.value_of refined.values_of refined.edge_of refined.index_of refined.sum_from refined.block_of refined.term_of refined.row_sum_by refined.spatial_by refined.denominator_of refined.steep_of refined.delta_yOf refined.delta_xOf refined.nearby refined.placed_of refined.moved_of refined.refine_by readable.finite_record readable.within readable.on_side readable.readable word_bytes float_bytes floats4 record_bytes bytes_of answer_of corrected_by moved_of in_range trusted chosen_of better flatter gained gain_of accepted sigma_at place_of right_polarity derivative_of model_move_of proposal_of model_of signed_root weight_of bounded_of blend_beta_by beta_of blend_of no_blend geometry_of profile.statistic_by profile.scaled_by profile.fitted_of profile.ratio_of profile.usable_energy profile.usable_line profile.usable_roots profile.usable_samples profile.residual_of all_usable usable all_below all_above all_finite largest_by energy_of dot_of spread_of mean_of sum_of quotients_of products_of roots_of over_of less_of squares_of horner_of coeffs_of row_of discriminant_of curvature_of band_by extreme_by better_by stationary_of sign_of finite_cubic envelope_by shape_by turns_of first_of second_of turn_of put_low put_high ends_by within owns_by set_t numbers_t block_t row cubic_t sigmas_t values refusals.number good all_set rising every blank exp_of exp_up exp_down below_one capped series_of fixed_of log2_of log2_pos joined scaled_of digits_of squared sqrt_of root_units in_units scale radicand near_root nearer isqrt root_by digit finite abs_of min_of max_of clamp_of of_bits to_bits of_fields of_int odd size round add sub mul div neg lt le eq ne is_nan count_leading_zeros
second_cut_holds = refl

pub first-short-holds : first_short.given ≡ first_short.due
unfolding old_m old_bytes kept_of first_short cut_case spot_at cut_m of_after scene_packed scenes.scene_of scenes.scene_by scenes.left_of scenes.copied_of scenes.answer_of scenes.whole_tiles scenes.copies_to scenes.bytes_to scene_checks first_tiles tile_list all_bytes numbered_bytes tile_level gather length_of tiles_of missing_of refusals.value refusals.cause_of sized_bytes tail_bytes half_bytes home_of size_of accepted_of given_sigma nearest_of nearest_to saturated of_checked bytes_m thresholds_m thresholds_of put zeros refusals.first_of refusals.unless refusals.any_nan dues.due dues.rows_due dues.row_due dues.pixel_due listed dues.judge_of pixel_at stencil_of sample_at samples_of places_of cubics_of whole_place whole_of anchor_of polarity_of record_of admit_of verdict_by all_of beats_by ring_by sigma_of peak_of strong_of curved_of gate_by refined.value_of refined.values_of refined.edge_of refined.index_of refined.sum_from refined.block_of refined.term_of refined.row_sum_by refined.spatial_by refined.denominator_of refined.steep_of refined.delta_yOf refined.delta_xOf refined.nearby refined.placed_of refined.moved_of refined.refine_by readable.finite_record readable.within readable.on_side readable.readable word_bytes float_bytes floats4 record_bytes bytes_of answer_of corrected_by moved_of in_range trusted chosen_of better flatter gained gain_of accepted sigma_at place_of right_polarity derivative_of model_move_of proposal_of model_of signed_root weight_of bounded_of blend_beta_by beta_of blend_of no_blend geometry_of profile.statistic_by profile.scaled_by profile.fitted_of profile.ratio_of profile.usable_energy profile.usable_line profile.usable_roots profile.usable_samples profile.residual_of all_usable usable all_below all_above all_finite largest_by energy_of dot_of spread_of mean_of sum_of quotients_of products_of roots_of over_of less_of squares_of horner_of coeffs_of row_of discriminant_of curvature_of band_by extreme_by better_by stationary_of sign_of finite_cubic envelope_by shape_by turns_of first_of second_of turn_of put_low put_high ends_by within owns_by set_t numbers_t block_t row cubic_t sigmas_t values refusals.number good all_set rising every blank exp_of exp_up exp_down below_one capped series_of fixed_of log2_of log2_pos joined scaled_of digits_of squared sqrt_of root_units in_units scale radicand near_root nearer isqrt root_by digit finite abs_of min_of max_of clamp_of of_bits to_bits of_fields of_int odd size round add sub mul div neg lt le eq ne is_nan count_leading_zeros
first-short-holds = refl

pub second-short-holds : second_short.given ≡ second_short.due
unfolding old_m old_bytes kept_of second_short cut_case spot_at cut_m of_after scene_packed scenes.scene_of scenes.scene_by scenes.left_of scenes.copied_of scenes.answer_of scenes.whole_tiles scenes.copies_to scenes.bytes_to scene_checks first_tiles tile_list all_bytes numbered_bytes tile_level gather length_of tiles_of missing_of refusals.value refusals.cause_of sized_bytes tail_bytes half_bytes home_of size_of accepted_of given_sigma nearest_of nearest_to saturated of_checked bytes_m thresholds_m thresholds_of put zeros refusals.first_of refusals.unless refusals.any_nan dues.due dues.rows_due dues.row_due dues.pixel_due listed dues.judge_of pixel_at stencil_of sample_at samples_of places_of cubics_of whole_place whole_of anchor_of polarity_of record_of admit_of verdict_by all_of beats_by ring_by sigma_of peak_of strong_of curved_of gate_by refined.value_of refined.values_of refined.edge_of refined.index_of refined.sum_from refined.block_of refined.term_of refined.row_sum_by refined.spatial_by refined.denominator_of refined.steep_of refined.delta_yOf refined.delta_xOf refined.nearby refined.placed_of refined.moved_of refined.refine_by readable.finite_record readable.within readable.on_side readable.readable word_bytes float_bytes floats4 record_bytes bytes_of answer_of corrected_by moved_of in_range trusted chosen_of better flatter gained gain_of accepted sigma_at place_of right_polarity derivative_of model_move_of proposal_of model_of signed_root weight_of bounded_of blend_beta_by beta_of blend_of no_blend geometry_of profile.statistic_by profile.scaled_by profile.fitted_of profile.ratio_of profile.usable_energy profile.usable_line profile.usable_roots profile.usable_samples profile.residual_of all_usable usable all_below all_above all_finite largest_by energy_of dot_of spread_of mean_of sum_of quotients_of products_of roots_of over_of less_of squares_of horner_of coeffs_of row_of discriminant_of curvature_of band_by extreme_by better_by stationary_of sign_of finite_cubic envelope_by shape_by turns_of first_of second_of turn_of put_low put_high ends_by within owns_by set_t numbers_t block_t row cubic_t sigmas_t values refusals.number good all_set rising every blank exp_of exp_up exp_down below_one capped series_of fixed_of log2_of log2_pos joined scaled_of digits_of squared sqrt_of root_units in_units scale radicand near_root nearer isqrt root_by digit finite abs_of min_of max_of clamp_of of_bits to_bits of_fields of_int odd size round add sub mul div neg lt le eq ne is_nan count_leading_zeros
second-short-holds = refl
