-- The cases of displacements and of old lists hold, by computation. Assumes nothing.
use mathlib.Core.Path.{◌≡◌, refl}
use mathlib.Core.List.{map}
use lib.Count.{count_leading_zeros}
use lib.Ieee.{of_bits, to_bits, of_fields, of_int, odd, size, round, add, sub, mul, div, neg, lt, le, eq, ne, is_nan}
use Rattle.float.specs.Small.{finite, abs_of, min_of, max_of, clamp_of}
use Rattle.float.specs.Root.{near_root, nearer, isqrt, root_by, digit}
use Rattle.float.specs.Sqrt.{sqrt_of, root_units, in_units, scale, radicand}
use Rattle.logexp.specs.Log.{squared, digits_of, scaled_of, joined, log2_pos, log2_of}
use Rattle.logexp.specs.Exp.{fixed_of, series_of, capped, exp_up, exp_down, below_one, exp_of}
use Rattle.whole.specs.Nearest.{saturated, nearest_to, nearest_of}
use Rattle.tables.specs.Set.{every, rising, all_set, good, blank}
use Rattle.tables.specs.Refusal as refusals
use Rattle.tables.specs.SetT.{values, sigmas_t, cubic_t, row, block_t, numbers_t, set_t}
use Rattle.words.specs.Words.{word_bytes, half_bytes, float_bytes, word_from, float_from}
use Rattle.moves.specs.Moves.{nearby, kept_of}
use Rattle.record.specs.Layout.{floats4, old_bytes, record_with, record_from, old_from}
use Rattle.record.specs.Readable as readable
use Rattle.fit.specs.Cubic.{row_of, coeffs_of, horner_of, discriminant_of, curvature_of}
use Rattle.profile.specs.Four.{squares_of, less_of, over_of, roots_of, products_of, quotients_of, sum_of, mean_of, spread_of, dot_of, energy_of, largest_by, all_finite, all_above, all_below, usable, all_usable}
use Rattle.profile.specs.Profile as profile
use Rattle.size.specs.Correct.{geometry_of, no_blend, blend_of, beta_of, blend_beta_by, bounded_of, weight_of, signed_root, model_of, proposal_of, model_move_of, derivative_of, right_polarity, place_of, sigma_at, accepted, gain_of, gained, flatter, better, chosen_of, trusted, in_range, moved_of, corrected_by, answer_of}
use Rattle.sized.specs.Sized.{given_sigma, accepted_of, missing_of, size_of, home_of, tail_bytes, old_sized_bytes}
use Rattle.join.specs.Join as join
use Rattle.cases.specs.Case.{Case}
use Rattle.cases.specs.MapM.{old_m, bytes_m}
use Rattle.cases.specs.Moves.{kept_case, moved_m, read_case, values_of, join_case, old_case, moves}

pub moves_hold : map (λ (c : Case). c.given) moves ≡ map (λ (c : Case). c.due) moves
unfolding moves kept_case moved_m read_case values_of join_case old_case old_m bytes_m kept_of nearby old_bytes record_with record_from old_from floats4 readable.finite_record readable.within readable.on_side readable.readable join.records_from join.first_bad join.join_checks join.sized_all join.laid_sized join.joined join.join_by old_sized_bytes tail_bytes half_bytes home_of size_of accepted_of missing_of given_sigma float_from word_from word_bytes float_bytes nearest_of nearest_to saturated refusals.number refusals.value refusals.first_of refusals.unless refusals.cause_of answer_of corrected_by moved_of in_range trusted chosen_of better flatter gained gain_of accepted sigma_at place_of right_polarity derivative_of model_move_of proposal_of model_of signed_root weight_of bounded_of blend_beta_by beta_of blend_of no_blend geometry_of profile.statistic_by profile.scaled_by profile.fitted_of profile.ratio_of profile.usable_energy profile.usable_line profile.usable_roots profile.usable_samples profile.residual_of all_usable usable all_below all_above all_finite largest_by energy_of dot_of spread_of mean_of sum_of quotients_of products_of roots_of over_of less_of squares_of horner_of coeffs_of row_of discriminant_of curvature_of set_t numbers_t block_t row cubic_t sigmas_t values good all_set rising every blank exp_of exp_up exp_down below_one capped series_of fixed_of log2_of log2_pos joined scaled_of digits_of squared sqrt_of root_units in_units scale radicand near_root nearer isqrt root_by digit finite abs_of min_of max_of clamp_of of_bits to_bits of_fields of_int odd size round add sub mul div neg lt le eq ne is_nan count_leading_zeros
moves_hold = refl
