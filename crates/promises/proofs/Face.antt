-- The promises of the detector's C functions settle the number and what each pointer is left with. Assumes nothing.
use seplogic.Ra.Ura.{Ura}
use base.Logic.{SProp}
use prog.Memory.{Memory}
use prog.Routine.{Routine}
use types.Logic.{Logic}
use contract.Monad.{Fun}
use Rattle.alp_c.specs.contracts.uramsheg_detect as uramsheg-detect
use Rattle.alp_c.specs.contracts.uramsheg_join as uramsheg-join
use Rattle.alp_c.specs.contracts.uramsheg_join_old as uramsheg-join-old
use Rattle.alp_c.specs.contracts.uramsheg_correct as uramsheg-correct
use Rattle.alp_c.specs.contracts.uramsheg_octave_count as uramsheg-octave-count
use Rattle.alp_c.specs.contracts.uramsheg_downsample as uramsheg-downsample
use Rattle.alp_c.specs.contracts.uramsheg_levels as uramsheg-levels
use Rattle.alp_c.specs.contracts.uramsheg_set_check as uramsheg-set-check
use Rattle.alp_c.specs.contracts.uramsheg_feed_start as uramsheg-feed-start
use Rattle.alp_c.specs.contracts.uramsheg_feed_column as uramsheg-feed-column
use Rattle.alp_c.specs.contracts.uramsheg_scene as uramsheg-scene
use Rattle.alp_c.specs.contracts.uramsheg_desk_claim as uramsheg-desk-claim
use Rattle.alp_c.specs.contracts.uramsheg_desk_write as uramsheg-desk-write
use Rattle.alp_c.specs.contracts.uramsheg_desk_release as uramsheg-desk-release
use Rattle.alp_c.specs.contracts.uramsheg_desk_run as uramsheg-desk-run
use Rattle.alp_c.specs.contracts.uramsheg_store_clear as uramsheg-store-clear
use Rattle.alp_c.specs.contracts.uramsheg_store_add as uramsheg-store-add
use Rattle.alp_c.specs.contracts.uramsheg_store_strike as uramsheg-store-strike
use Rattle.alp_c.specs.contracts.uramsheg_store_close_up as uramsheg-store-close-up
use Rattle.alp_c.specs.contracts.uramsheg_accept as uramsheg-accept
use Rattle.promises.specs.Settles.{Settles}
use Rattle.promises.proofs.Facts.{one_value, one_answer, untouched}

module _ {M : Type 1} {𝓤 : Ura M} (𝓛 : Logic 𝓤) (mem : Memory → SProp 𝓤) (run : Routine → Fun 𝓤) where
  pub uramsheg_detect_settled : Settles 𝓤 uramsheg-detect.ended (uramsheg-detect.clauses 𝓛 mem run)
  uramsheg_detect_settled κs a g g' r r' ws ws' = one_value 𝓤 _ _ _ (λ x. x.number) (λ x. untouched 13 (x.buffer, (x.value, tt)))

  pub uramsheg_join_settled : Settles 𝓤 uramsheg-join.ended (uramsheg-join.clauses 𝓛 mem run)
  uramsheg_join_settled κs a g g' r r' ws ws' = one_value 𝓤 _ _ _ (λ x. x.number) (λ x. untouched 4 (x.buffer, (x.value, tt)))

  pub uramsheg_join_old_settled : Settles 𝓤 uramsheg-join-old.ended (uramsheg-join-old.clauses 𝓛 mem run)
  uramsheg_join_old_settled κs a g g' r r' ws ws' = one_value 𝓤 _ _ _ (λ x. x.number) (λ x. untouched 4 (x.buffer, (x.value, tt)))

  pub uramsheg_correct_settled : Settles 𝓤 uramsheg-correct.ended (uramsheg-correct.clauses 𝓛 mem run)
  uramsheg_correct_settled κs a g g' r r' ws ws' = one_value 𝓤 _ _ _ (λ x. x.number) (λ x. untouched 7 (x.corrected, (x.cause, tt)))

  pub uramsheg_octave-count_settled : Settles 𝓤 uramsheg-octave-count.ended (uramsheg-octave-count.clauses 𝓛 mem run)
  uramsheg_octave-count_settled κs a g g' r r' ws ws' = one_answer 𝓤 _

  pub uramsheg_downsample_settled : Settles 𝓤 uramsheg-downsample.ended (uramsheg-downsample.clauses 𝓛 mem run)
  uramsheg_downsample_settled κs a g g' r r' ws ws' = one_value 𝓤 _ _ _ (λ x. x.number) (λ x. untouched 3 (x.buffer, (x.rows, (x.cols, tt))))

  pub uramsheg_set_check_settled : Settles 𝓤 uramsheg-set-check.ended (uramsheg-set-check.clauses 𝓛 mem run)
  uramsheg_set_check_settled κs a g g' r r' ws ws' = one_answer 𝓤 _

  pub uramsheg_levels_settled : Settles 𝓤 uramsheg-levels.ended (uramsheg-levels.clauses 𝓛 mem run)
  uramsheg_levels_settled κs a g g' r r' ws ws' = one_value 𝓤 _ _ _ (λ x. x.number) (λ x. untouched 5 (x.l0, (x.l1, (x.l2, (x.l3, tt)))))

  pub uramsheg_feed_start_settled : Settles 𝓤 uramsheg-feed-start.ended (uramsheg-feed-start.clauses 𝓛 mem run)
  uramsheg_feed_start_settled κs a g g' r r' ws ws' = one_value 𝓤 _ _ _ (λ x. x.number) (λ x. untouched 13 (x.state, tt))

  pub uramsheg_feed_column_settled : Settles 𝓤 uramsheg-feed-column.ended (uramsheg-feed-column.clauses 𝓛 mem run)
  uramsheg_feed_column_settled κs a g g' r r' ws ws' =
      one_value 𝓤 _ _ _ (λ x. x.number) (λ x. (x.state, untouched 4 (x.ring.l0, (x.ring.l1, (x.ring.l2, (x.ring.l3, (x.out, (x.value, tt))))))))

  pub uramsheg_scene_settled : Settles 𝓤 uramsheg-scene.ended (uramsheg-scene.clauses 𝓛 mem run)
  uramsheg_scene_settled κs a g g' r r' ws ws' =
      one_value 𝓤 _ _ _ (λ x. x.number) (λ x. untouched 13 (x.t0, (x.t1, (x.t2, (x.t3, (x.out, (x.value, tt)))))))

  pub uramsheg_desk_claim_settled : Settles 𝓤 uramsheg-desk-claim.ended (uramsheg-desk-claim.clauses 𝓛 mem run)
  uramsheg_desk_claim_settled κs a g g' r r' ws ws' = one_value 𝓤 _ _ _ (λ x. x.number) (λ x. (x.table, untouched 2 tt))

  pub uramsheg_desk_write_settled : Settles 𝓤 uramsheg-desk-write.ended (uramsheg-desk-write.clauses 𝓛 mem run)
  uramsheg_desk_write_settled κs a g g' r r' ws ws' = one_value 𝓤 _ _ _ (λ x. x.number) (λ x. (x.table, untouched 3 tt))

  pub uramsheg_desk_release_settled : Settles 𝓤 uramsheg-desk-release.ended (uramsheg-desk-release.clauses 𝓛 mem run)
  uramsheg_desk_release_settled κs a g g' r r' ws ws' = one_value 𝓤 _ _ _ (λ x. x.number) (λ x. (x.table, untouched 2 tt))

  pub uramsheg_desk_run_settled : Settles 𝓤 uramsheg-desk-run.ended (uramsheg-desk-run.clauses 𝓛 mem run)
  uramsheg_desk_run_settled κs a g g' r r' ws ws' = one_value 𝓤 _ _ _ (λ x. x.number) (λ x. untouched 14 (x.buffer, (x.value, tt)))

  pub uramsheg_store_clear_settled : Settles 𝓤 uramsheg-store-clear.ended (uramsheg-store-clear.clauses 𝓛 mem run)
  uramsheg_store_clear_settled κs a g g' r r' ws ws' = one_value 𝓤 _ _ _ (λ x. x.number) (λ x. (x.buffer, (x.value, tt)))

  pub uramsheg_store_add_settled : Settles 𝓤 uramsheg-store-add.ended (uramsheg-store-add.clauses 𝓛 mem run)
  uramsheg_store_add_settled κs a g g' r r' ws ws' = one_value 𝓤 _ _ _ (λ x. x.number) (λ x. (x.buffer, untouched 3 (x.value, tt)))

  pub uramsheg_store_strike_settled : Settles 𝓤 uramsheg-store-strike.ended (uramsheg-store-strike.clauses 𝓛 mem run)
  uramsheg_store_strike_settled κs a g g' r r' ws ws' = one_value 𝓤 _ _ _ (λ x. x.number) (λ x. (x.buffer, untouched 3 (x.value, tt)))

  pub uramsheg_store_close-up_settled : Settles 𝓤 uramsheg-store-close-up.ended (uramsheg-store-close-up.clauses 𝓛 mem run)
  uramsheg_store_close-up_settled κs a g g' r r' ws ws' = one_value 𝓤 _ _ _ (λ x. x.number) (λ x. (x.buffer, untouched 2 (x.value, tt)))

  pub uramsheg_accept_settled : Settles 𝓤 uramsheg-accept.ended (uramsheg-accept.clauses 𝓛 mem run)
  uramsheg_accept_settled κs a g g' r r' ws ws' = one_value 𝓤 _ _ _ (λ x. x.number) (λ x. untouched 14 (x.finding, (x.value, tt)))
