-- The promises of the fits, of the refinement, of a pixel's judgement and of the correction's parts settle what a call leaves. Assumes nothing.
use mathlib.Core.Path.{refl, sym, ap, ◌∙◌}
use seplogic.Ra.Ura.{Ura}
use base.Logic.{SProp}
use prog.Memory.{Memory}
use prog.Routine.{Routine}
use types.Logic.{Logic}
use contract.Monad.{Fun}
use Rattle.fit.specs.contracts.pick as pick
use Rattle.fit.specs.contracts.scale_fit.row as row
use Rattle.fit.specs.contracts.scale_fit.sign_of as sign_of
use Rattle.fit.specs.contracts.scale_fit.apply_cubic_transform as apply-cubic-transform
use Rattle.fit.specs.contracts.scale_fit.compute_poly_coeffs as compute-poly-coeffs
use Rattle.fit.specs.contracts.scale_fit.compute_geometry_poly_coeffs as compute-geometry-poly-coeffs
use Rattle.fit.specs.contracts.scale_fit.horner as horner
use Rattle.fit.specs.contracts.scale_fit.discriminant as discriminant
use Rattle.fit.specs.contracts.scale_fit.curvature as curvature
use Rattle.fit.specs.contracts.scale_fit.bends as bends
use Rattle.fit.specs.contracts.scale_fit.neighbor_scale_band as neighbor-scale-band
use Rattle.fit.specs.contracts.scale_fit.band_extreme as band-extreme
use Rattle.fit.specs.contracts.scale_fit.all_finite as all-finite
use Rattle.fit.specs.contracts.scale_fit.owns_scale_extremum as owns-scale-extremum
use Rattle.fit.specs.contracts.reference.polynomial_extrema as polynomial-extrema
use Rattle.fit.specs.contracts.stream.is_within as is_Within
use Rattle.fit.specs.contracts.stream.ends as ends
use Rattle.fit.specs.contracts.stream.put_low as put_low
use Rattle.fit.specs.contracts.stream.put_high as put-high
use Rattle.fit.specs.contracts.stream.shape as shape
use Rattle.fit.specs.contracts.stream.scale_envelope as scale-envelope
use Rattle.spatial.specs.contracts.edge.values_at as values-at
use Rattle.spatial.specs.contracts.edge.passes_edge as passes-edge
use Rattle.spatial.specs.contracts.place.get_q_scale_index as get-q-scale-index
use Rattle.spatial.specs.contracts.place.fit_spatial_quadratic as fit-spatial-quadratic
use Rattle.spatial.specs.contracts.place.denominator as denominator
use Rattle.spatial.specs.contracts.place.is_steep as is-steep
use Rattle.spatial.specs.contracts.place.delta_y as delta-y
use Rattle.spatial.specs.contracts.place.delta_x as delta-x
use Rattle.moves.specs.contracts.is_nearby as is-nearby
use Rattle.moves.specs.contracts.kept as kept
use Rattle.refine.specs.contracts.refine.refine_keypoint_2d as refine-keypoint-2d
use Rattle.refine.specs.contracts.lend.settle as settle
use Rattle.refine.specs.contracts.lend.refine_spot as refine-spot
use Rattle.refine.specs.contracts.lend.refine_in_place as refine-in-place
use Rattle.pixel.specs.contracts.gate.sigma_of as sigma-of
use Rattle.pixel.specs.contracts.gate.peak_of as peak-of
use Rattle.pixel.specs.contracts.gate.gate as gate
use Rattle.pixel.specs.contracts.gate.own_gate as own-gate
use Rattle.pixel.specs.contracts.ring.beats as beats
use Rattle.pixel.specs.contracts.ring.beats_all as beats-all
use Rattle.pixel.specs.contracts.judge.cubics_of as cubics-of
use Rattle.pixel.specs.contracts.judge.verdict as verdict
use Rattle.pixel.specs.contracts.judge.listing as listing
use Rattle.listing.specs.contracts.lay_both as lay-both
use Rattle.listing.specs.contracts.lay_listing as lay-listing
use Rattle.profile.specs.contracts.profile_compatibility_statistic as profile-compatibility-statistic
use Rattle.size.specs.contracts.anchor.geometry_of as geometry-of
use Rattle.size.specs.contracts.anchor.profile_beta_from_statistic as profile-beta-from-statistic
use Rattle.size.specs.contracts.anchor.profile_blend_beta as profile-blend-beta
use Rattle.size.specs.contracts.anchor.profile_bounded_move as profile-bounded-move
use Rattle.size.specs.contracts.anchor.profile_model_move as profile-model-move
use Rattle.size.specs.contracts.anchor.corrected_sigma_from_anchor as corrected-sigma-from-anchor
use Rattle.promises.specs.Settles.{Settles}
use Rattle.promises.proofs.Facts.{both_told, one_answer, untouched}

module _ {M : Type 1} {𝓤 : Ura M} (𝓛 : Logic 𝓤) (mem : Memory → SProp 𝓤) (run : Routine → Fun 𝓤) where
  -- ---- the fits

  pub pick_settled : Settles 𝓤 pick.ended (pick.clauses 𝓛 mem run)
  pick_settled κs a g g' r r' ws ws' = one_answer 𝓤 _

  pub row_settled : Settles 𝓤 row.ended (row.clauses 𝓛 mem run)
  row_settled κs a g g' r r' ws ws' = one_answer 𝓤 _

  pub sign_of_settled : Settles 𝓤 sign_of.ended (sign_of.clauses 𝓛 mem run)
  sign_of_settled κs a g g' r r' ws ws' = one_answer 𝓤 _

  pub apply_cubic_transform_settled : Settles 𝓤 apply-cubic-transform.ended (apply-cubic-transform.clauses 𝓛 mem run)
  apply_cubic_transform_settled κs a g g' r r' ws ws' = one_answer 𝓤 _

  pub compute_poly_coeffs_settled : Settles 𝓤 compute-poly-coeffs.ended (compute-poly-coeffs.clauses 𝓛 mem run)
  compute_poly_coeffs_settled κs a g g' r r' ws ws' = one_answer 𝓤 _

  pub compute_geometry_poly_coeffs_settled : Settles 𝓤 compute-geometry-poly-coeffs.ended (compute-geometry-poly-coeffs.clauses 𝓛 mem run)
  compute_geometry_poly_coeffs_settled κs a g g' r r' ws ws' = one_answer 𝓤 _

  pub horner_settled : Settles 𝓤 horner.ended (horner.clauses 𝓛 mem run)
  horner_settled κs a g g' r r' ws ws' = one_answer 𝓤 _

  pub discriminant_settled : Settles 𝓤 discriminant.ended (discriminant.clauses 𝓛 mem run)
  discriminant_settled κs a g g' r r' ws ws' = one_answer 𝓤 _

  pub curvature_settled : Settles 𝓤 curvature.ended (curvature.clauses 𝓛 mem run)
  curvature_settled κs a g g' r r' ws ws' = one_answer 𝓤 _

  pub bends_settled : Settles 𝓤 bends.ended (bends.clauses 𝓛 mem run)
  bends_settled κs a g g' r r' ws ws' = one_answer 𝓤 _

  pub neighbor_scale_band_settled : Settles 𝓤 neighbor-scale-band.ended (neighbor-scale-band.clauses 𝓛 mem run)
  neighbor_scale_band_settled κs a g g' r r' ws ws' = one_answer 𝓤 _

  pub band_extreme_settled : Settles 𝓤 band-extreme.ended (band-extreme.clauses 𝓛 mem run)
  band_extreme_settled κs a g g' r r' ws ws' = one_answer 𝓤 _

  pub all_finite_settled : Settles 𝓤 all-finite.ended (all-finite.clauses 𝓛 mem run)
  all_finite_settled κs a g g' r r' ws ws' = one_answer 𝓤 _

  pub owns_scale_extremum_settled : Settles 𝓤 owns-scale-extremum.ended (owns-scale-extremum.clauses 𝓛 mem run)
  owns_scale_extremum_settled κs a g g' r r' ws ws' = one_answer 𝓤 _

  pub polynomial_extrema_settled : Settles 𝓤 polynomial-extrema.ended (polynomial-extrema.clauses 𝓛 mem run)
  polynomial_extrema_settled κs a g g' r r' ws ws' = one_answer 𝓤 _

  pub is-within_settled : Settles 𝓤 is_Within.ended (is_Within.clauses 𝓛 mem run)
  is-within_settled κs a g g' r r' ws ws' = one_answer 𝓤 _

  pub ends_settled : Settles 𝓤 ends.ended (ends.clauses 𝓛 mem run)
  ends_settled κs a g g' r r' ws ws' = one_answer 𝓤 _

  pub put-low_settled : Settles 𝓤 put_low.ended (put_low.clauses 𝓛 mem run)
  put-low_settled κs a g g' r r' ws ws' = one_answer 𝓤 _

  pub put-high_settled : Settles 𝓤 put-high.ended (put-high.clauses 𝓛 mem run)
  put-high_settled κs a g g' r r' ws ws' = one_answer 𝓤 _

  pub shape_settled : Settles 𝓤 shape.ended (shape.clauses 𝓛 mem run)
  shape_settled κs a g g' r r' ws ws' = one_answer 𝓤 _

  pub scale_envelope_settled : Settles 𝓤 scale-envelope.ended (scale-envelope.clauses 𝓛 mem run)
  scale_envelope_settled κs a g g' r r' ws ws' = one_answer 𝓤 _

  -- ---- the refinement

  pub values_at_settled : Settles 𝓤 values-at.ended (values-at.clauses 𝓛 mem run)
  values_at_settled κs a g g' r r' ws ws' = one_answer 𝓤 _

  pub passes_edge_settled : Settles 𝓤 passes-edge.ended (passes-edge.clauses 𝓛 mem run)
  passes_edge_settled κs a g g' r r' ws ws' = one_answer 𝓤 _

  pub get_q-scale-index_settled : Settles 𝓤 get-q-scale-index.ended (get-q-scale-index.clauses 𝓛 mem run)
  get_q-scale-index_settled κs a g g' r r' ws ws' = one_answer 𝓤 _

  pub fit_spatial_quadratic_settled : Settles 𝓤 fit-spatial-quadratic.ended (fit-spatial-quadratic.clauses 𝓛 mem run)
  fit_spatial_quadratic_settled κs a g g' r r' ws ws' = one_answer 𝓤 _

  pub denominator_settled : Settles 𝓤 denominator.ended (denominator.clauses 𝓛 mem run)
  denominator_settled κs a g g' r r' ws ws' = one_answer 𝓤 _

  pub is_steep_settled : Settles 𝓤 is-steep.ended (is-steep.clauses 𝓛 mem run)
  is_steep_settled κs a g g' r r' ws ws' = one_answer 𝓤 _

  pub delta_y_settled : Settles 𝓤 delta-y.ended (delta-y.clauses 𝓛 mem run)
  delta_y_settled κs a g g' r r' ws ws' = one_answer 𝓤 _

  pub delta_x_settled : Settles 𝓤 delta-x.ended (delta-x.clauses 𝓛 mem run)
  delta_x_settled κs a g g' r r' ws ws' = one_answer 𝓤 _

  pub is-nearby_settled : Settles 𝓤 is-nearby.ended (is-nearby.clauses 𝓛 mem run)
  is-nearby_settled κs a g g' r r' ws ws' = one_answer 𝓤 _

  pub kept_settled : Settles 𝓤 kept.ended (kept.clauses 𝓛 mem run)
  kept_settled κs a g g' r r' ws ws' = one_answer 𝓤 _

  pub refine_keypoint_2d_settled : Settles 𝓤 refine-keypoint-2d.ended (refine-keypoint-2d.clauses 𝓛 mem run)
  refine_keypoint_2d_settled κs a g g' r r' ws ws' = one_answer 𝓤 _

  pub settle_settled : Settles 𝓤 settle.ended (settle.clauses 𝓛 mem run)
  settle_settled κs a g g' r r' ws ws' = one_answer 𝓤 _

  pub refine_spot_settled : Settles 𝓤 refine-spot.ended (refine-spot.clauses 𝓛 mem run)
  refine_spot_settled κs a g g' r r' ws ws' = one_answer 𝓤 _

  pub refine_in_place_settled : Settles 𝓤 refine-in-place.ended (refine-in-place.clauses 𝓛 mem run)
  refine_in_place_settled κs a g g' r r' ws ws' = both_told 𝓤 (λ p q. (p.0 ∙ sym q.0, ap (λ x. untouched 1 (x, (tt, (tt, tt)))) (p.1 ∙ sym q.1)))

  -- ---- a pixel's judgement

  pub sigma_of_settled : Settles 𝓤 sigma-of.ended (sigma-of.clauses 𝓛 mem run)
  sigma_of_settled κs a g g' r r' ws ws' = one_answer 𝓤 _

  pub peak_of_settled : Settles 𝓤 peak-of.ended (peak-of.clauses 𝓛 mem run)
  peak_of_settled κs a g g' r r' ws ws' = one_answer 𝓤 _

  pub gate_settled : Settles 𝓤 gate.ended (gate.clauses 𝓛 mem run)
  gate_settled κs a g g' r r' ws ws' = one_answer 𝓤 _

  pub own_gate_settled : Settles 𝓤 own-gate.ended (own-gate.clauses 𝓛 mem run)
  own_gate_settled κs a g g' r r' ws ws' = one_answer 𝓤 _

  pub beats_settled : Settles 𝓤 beats.ended (beats.clauses 𝓛 mem run)
  beats_settled κs a g g' r r' ws ws' = one_answer 𝓤 _

  pub beats-all_settled : Settles 𝓤 beats-all.ended (beats-all.clauses 𝓛 mem run)
  beats-all_settled κs a g g' r r' ws ws' = one_answer 𝓤 _

  pub cubics_of_settled : Settles 𝓤 cubics-of.ended (cubics-of.clauses 𝓛 mem run)
  cubics_of_settled κs a g g' r r' ws ws' = one_answer 𝓤 _

  pub verdict_settled : Settles 𝓤 verdict.ended (verdict.clauses 𝓛 mem run)
  verdict_settled κs a g g' r r' ws ws' = one_answer 𝓤 _

  pub listing_settled : Settles 𝓤 listing.ended (listing.clauses 𝓛 mem run)
  listing_settled κs a g g' r r' ws ws' = both_told 𝓤 (λ p q. (λ i. record { low = (p.0 ∙ sym q.0) i; high = (p.1 ∙ sym q.1) i }, refl))

  pub lay_both_settled : Settles 𝓤 lay-both.ended (lay-both.clauses 𝓛 mem run)
  lay_both_settled κs a g g' r r' ws ws' = both_told 𝓤 (λ p q. (p.count ∙ sym q.count, ap (λ b. (b, untouched 2 tt)) (p.bytes ∙ sym q.bytes)))

  pub lay_listing_settled : Settles 𝓤 lay-listing.ended (lay-listing.clauses 𝓛 mem run)
  lay_listing_settled κs a g g' r r' ws ws' = both_told 𝓤 (λ p q. (p.count ∙ sym q.count, ap (λ b. untouched 6 (b, untouched 1 tt)) (p.bytes ∙ sym q.bytes)))

  -- ---- the parts of the correction

  pub profile_compatibility_statistic_settled : Settles 𝓤 profile-compatibility-statistic.ended (profile-compatibility-statistic.clauses 𝓛 mem run)
  profile_compatibility_statistic_settled κs a g g' r r' ws ws' = one_answer 𝓤 _

  pub geometry_of_settled : Settles 𝓤 geometry-of.ended (geometry-of.clauses 𝓛 mem run)
  geometry_of_settled κs a g g' r r' ws ws' = one_answer 𝓤 _

  pub profile_beta-from-statistic_settled : Settles 𝓤 profile-beta-from-statistic.ended (profile-beta-from-statistic.clauses 𝓛 mem run)
  profile_beta-from-statistic_settled κs a g g' r r' ws ws' = one_answer 𝓤 _

  pub profile_blend_beta_settled : Settles 𝓤 profile-blend-beta.ended (profile-blend-beta.clauses 𝓛 mem run)
  profile_blend_beta_settled κs a g g' r r' ws ws' = one_answer 𝓤 _

  pub profile_bounded_move_settled : Settles 𝓤 profile-bounded-move.ended (profile-bounded-move.clauses 𝓛 mem run)
  profile_bounded_move_settled κs a g g' r r' ws ws' = one_answer 𝓤 _

  pub profile_model_move_settled : Settles 𝓤 profile-model-move.ended (profile-model-move.clauses 𝓛 mem run)
  profile_model_move_settled κs a g g' r r' ws ws' = one_answer 𝓤 _

  pub corrected-sigma-from_anchor_settled : Settles 𝓤 corrected-sigma-from-anchor.ended (corrected-sigma-from-anchor.clauses 𝓛 mem run)
  corrected-sigma-from_anchor_settled κs a g g' r r' ws ws' = one_answer 𝓤 _
