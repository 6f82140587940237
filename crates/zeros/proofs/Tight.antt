-- The sign of a zero peak does differ: on one map, with a good set, two allowed choices of zeros write unlike sign bytes.
use mathlib.Core.Path.{◌≡◌, refl}
use Prim.Native.Nat.{zero, suc}
use mathlib.Core.Bool.{true}
use lib.IntN.{pos, negsuc}
use lib.ListN.{get_or, length}
use lib.Ieee.{Float, nan, inf, fin, lt, le, eq, neg, add, sub, mul, div, is_nan, of_bits, to_bits, of_int}
use Rattle.float.specs.Small.{finite, abs_of, min_of, max_of}
use Rattle.float.specs.Sqrt.{sqrt_of}
use Rattle.tables.specs.Set.{every, rising, all_set, good}
use Rattle.tables.specs.SetT.{values, sigmas_t, cubic_t, row, block_t, numbers_t, set_t}
use Rattle.fit.specs.Near.{Near, same, zeros}
use Rattle.fit.specs.Cubic.{row_of, coeffs_of, horner_of, discriminant_of, curvature_of}
use Rattle.fit.specs.Envelope.{within, ends_by, put_low, put_high, turn_of, first_of, second_of, turns_of, shape_by}
use Rattle.fit.specs.Band.{band_by, finite_cubic, sign_of, stationary_of, better_by, extreme_by}
use Rattle.fit.specs.Owns.{owns_by}
use Rattle.moves.specs.Moves.{kept_of}
use Rattle.refine.specs.Refine.{value_of, values_of, edge_of, index_of, sum_from, block_of, term_of, row_sum_by, spatial_by, denominator_of, steep_of, delta_yOf, delta_xOf, nearby, placed_of, moved_of, refine_by}
use Rattle.record.specs.Readable as Readable
use Rattle.words.specs.Words.{word_bytes, float_bytes}
use Rattle.record.specs.Layout.{spot_width, floats4, old_bytes, record_bytes, bytes_of}
use Rattle.pixel.specs.Gate.{sigma_of, peak_of, strong_of, curved_of, gate_by}
use Rattle.pixel.specs.Ring.{all_of, beats_by, ring_by}
use Rattle.pixel.specs.Verdict.{cubics_of, whole_place, whole_of, anchor_of, polarity_of, record_of, admit_of, verdict_by}
use Rattle.grid.specs.Grid.{pixel_at}
use Rattle.samples.specs.Level.{stencil_of, sample_at, samples_of, places_of}
use Rattle.pixel.specs.Listed.{listed}
use Rattle.zeros.specs.Choices.{AllAllowed, all_ours, judge_by, pixel_due_by, row_due_by, rows_due_by, due_by}
use Rattle.zeros.specs.Example.{darkened, dark_min, bowl_set, lenient, flat_level, point_level, pit_level, pit_maps, pit_bytes}

darkened-near : (x : Float) → Near (darkened x) x
unfolding darkened
darkened-near nan = same
darkened-near (inf s) = same
darkened-near (fin s zero (pos zero)) = zeros
darkened-near (fin s zero (pos (suc k))) = same
darkened-near (fin s zero (negsuc k)) = same
darkened-near (fin s (suc m) e) = same

pub dark_min_allowed : AllAllowed dark_min
unfolding dark_min
dark_min_allowed row col is_max i = record { low = λ i a b. darkened-near (min_of a b); high = λ i a b. same; first = λ i. same }

pub bowl_good : good bowl_set ≡ true
unfolding bowl_set every rising all_set good values sigmas_t cubic_t row block_t numbers_t set_t finite lt neg of_bits
bowl_good = refl

-- both list one spot; the sign byte of its peak is 0 with this build's zeros, and 128 where min gives -0
pub sign_differs : ((length (pit_bytes all_ours) ≡ spot_width) × (get_or (pit_bytes all_ours) 15 0 ≡ 0)) × ((length (pit_bytes dark_min) ≡ spot_width) × (get_or (pit_bytes dark_min) 15 0 ≡ 128))
unfolding darkened dark_min bowl_set lenient flat_level point_level pit_level pit_maps pit_bytes values sigmas_t cubic_t row block_t numbers_t set_t row_of coeffs_of horner_of discriminant_of curvature_of within ends_by put_low put_high turn_of first_of second_of turns_of shape_by band_by finite_cubic sign_of stationary_of better_by extreme_by owns_by value_of values_of edge_of index_of sum_from block_of term_of row_sum_by spatial_by denominator_of steep_of delta_yOf delta_xOf nearby kept_of placed_of moved_of refine_by Readable.finite_record Readable.within Readable.on_side Readable.readable word_bytes float_bytes floats4 old_bytes record_bytes bytes_of sigma_of peak_of strong_of curved_of gate_by all_of beats_by ring_by cubics_of whole_place whole_of anchor_of polarity_of record_of admit_of verdict_by pixel_at stencil_of sample_at samples_of places_of listed judge_by pixel_due_by row_due_by rows_due_by due_by finite abs_of min_of max_of sqrt_of lt le eq neg add sub mul div is_nan of_bits to_bits of_int
sign_differs = ((refl, refl), (refl, refl))
