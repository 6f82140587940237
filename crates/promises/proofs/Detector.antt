-- The promises of the detector's functions settle the answer and each lent buffer. Assumes nothing.
use mathlib.Core.Path.{refl, sym, ◌∙◌}
use seplogic.Ra.Ura.{Ura}
use base.Logic.{SProp}
use prog.Memory.{Memory}
use prog.Routine.{Routine}
use types.Logic.{Logic}
use contract.Monad.{Fun}
use Rattle.tables.specs.contracts.is_good as is-good
use Rattle.tables.specs.contracts.has_nan as has-nan
use Rattle.tables.specs.contracts.read_set as read_set
use Rattle.tables.specs.contracts.read_or_blank as read-or-blank
use Rattle.tables.specs.contracts.refusals.U8FromMissing.from as cause-of
use Rattle.tables.specs.contracts.refusals.U32FromRefusal.from as number_of_lem
use Rattle.tables.specs.contracts.refusals.value_of as value_of_lem
use Rattle.tables.specs.contracts.set_of as set-of
use Rattle.checks.specs.contracts.sides_off as sides-off
use Rattle.checks.specs.contracts.levels_off as levels-off
use Rattle.checks.specs.contracts.octave_off as octave-off
use Rattle.checks.specs.contracts.checked as checked
use Rattle.feed.specs.contracts.feed_start as feed-start
use Rattle.feed.specs.contracts.feed_column as feed-column
use Rattle.states.specs.contracts.start as start
use Rattle.states.specs.contracts.column as column
use Rattle.detect.specs.contracts.detect as detect
use Rattle.tiles.specs.contracts.tiles_of as tiles-of
use Rattle.tiles.specs.contracts.start_of as start_of_lem
use Rattle.tiles.specs.contracts.length_of as length-of
use Rattle.scene_checks.specs.contracts.checked as scene-checked
use Rattle.scene.specs.contracts.scene as scene
use Rattle.desks.specs.contracts.table.is_runnable as is-runnable
use Rattle.desks.specs.contracts.table.set_in as set-in
use Rattle.desks.specs.contracts.claim as claim
use Rattle.desks.specs.contracts.write as write
use Rattle.desks.specs.contracts.release as release
use Rattle.desk_run.specs.contracts.run as desk-run
use Rattle.store.specs.contracts.clear as clear
use Rattle.store.specs.contracts.add as add
use Rattle.store.specs.contracts.strike as strike
use Rattle.store.specs.contracts.close_up as close_up
use Rattle.partner.specs.contracts.accept as accept
use Rattle.join.specs.contracts.join as join
use Rattle.join.specs.contracts.join_old as join-old
use Rattle.size.specs.contracts.correct as correct
use Rattle.kernels.specs.contracts.gauss.gaussian as gaussian
use Rattle.kernels.specs.contracts.gauss.octave_kernel as octave-kernel
use Rattle.levels.specs.contracts.levels as levels
use Rattle.pyramid.specs.contracts.octave_count as octave-count
use Rattle.pyramid.specs.contracts.downsample as downsample
use Rattle.samples.specs.contracts.view.pixel_at as pixel-at
use Rattle.samples.specs.contracts.view.sample_at as sample-at
use Rattle.samples.specs.contracts.view.view_of as view_of
use Rattle.samples.specs.contracts.view.pixel_in as pixel_in
use Rattle.samples.specs.contracts.view.response_in as response-in
use Rattle.samples.specs.contracts.view.response_of as response-of
use Rattle.promises.specs.Settles.{Settles}
use Rattle.promises.proofs.Facts.{both_told, one_value, one_answer, untouched}

module _ {M : Type 1} {𝓤 : Ura M} (𝓛 : Logic 𝓤) (mem : Memory → SProp 𝓤) (run : Routine → Fun 𝓤) where
  -- ---- the set of tables, and the thresholds

  pub is-good_settled : Settles 𝓤 is-good.ended (is-good.clauses 𝓛 mem run)
  is-good_settled κs a g g' r r' ws ws' = one_answer 𝓤 _

  pub has_nan_settled : Settles 𝓤 has-nan.ended (has-nan.clauses 𝓛 mem run)
  has_nan_settled κs a g g' r r' ws ws' = one_answer 𝓤 _

  pub read_set_settled : Settles 𝓤 read_set.ended (read_set.clauses 𝓛 mem run)
  read_set_settled κs a g g' r r' ws ws' = one_answer 𝓤 _

  pub read-or-blank_settled : Settles 𝓤 read-or-blank.ended (read-or-blank.clauses 𝓛 mem run)
  read-or-blank_settled κs a g g' r r' ws ws' = one_answer 𝓤 _

  -- ---- the number of a cause; the number and the value of a refusal

  pub cause_of_settled : Settles 𝓤 cause-of.ended (cause-of.clauses 𝓛 mem run)
  cause_of_settled κs a g g' r r' ws ws' = one_answer 𝓤 _

  pub number_of_settled : Settles 𝓤 number_of_lem.ended (number_of_lem.clauses 𝓛 mem run)
  number_of_settled κs a g g' r r' ws ws' = one_answer 𝓤 _

  pub value_of_settled : Settles 𝓤 value_of_lem.ended (value_of_lem.clauses 𝓛 mem run)
  value_of_settled κs a g g' r r' ws ws' = one_answer 𝓤 _

  -- ---- detection's checks, detection, the join, the correction

  pub set_of_settled : Settles 𝓤 set-of.ended (set-of.clauses 𝓛 mem run)
  set_of_settled κs a g g' r r' ws ws' = one_answer 𝓤 _

  pub sides_off_settled : Settles 𝓤 sides-off.ended (sides-off.clauses 𝓛 mem run)
  sides_off_settled κs a g g' r r' ws ws' = one_answer 𝓤 _

  pub levels_off_settled : Settles 𝓤 levels-off.ended (levels-off.clauses 𝓛 mem run)
  levels_off_settled κs a g g' r r' ws ws' = one_answer 𝓤 _

  pub octave-off_settled : Settles 𝓤 octave-off.ended (octave-off.clauses 𝓛 mem run)
  octave-off_settled κs a g g' r r' ws ws' = one_answer 𝓤 _

  pub checked_settled : Settles 𝓤 checked.ended (checked.clauses 𝓛 mem run)
  checked_settled κs a g g' r r' ws ws' = one_answer 𝓤 _

  pub detect_settled : Settles 𝓤 detect.ended (detect.clauses 𝓛 mem run)
  detect_settled κs a g g' r r' ws ws' = one_value 𝓤 _ _ _ (λ x. x.answer) (λ x. untouched 9 (x.buffer, tt))

  pub join_settled : Settles 𝓤 join.ended (join.clauses 𝓛 mem run)
  join_settled κs a g g' r r' ws ws' = one_value 𝓤 _ _ _ (λ x. x.answer) (λ x. untouched 4 (x.buffer, tt))

  pub join_old_settled : Settles 𝓤 join-old.ended (join-old.clauses 𝓛 mem run)
  join_old_settled κs a g g' r r' ws ws' = one_value 𝓤 _ _ _ (λ x. x.answer) (λ x. untouched 4 (x.buffer, tt))

  pub correct_settled : Settles 𝓤 correct.ended (correct.clauses 𝓛 mem run)
  correct_settled κs a g g' r r' ws ws' = one_answer 𝓤 _

  -- ---- the pyramid

  pub octave-count_settled : Settles 𝓤 octave-count.ended (octave-count.clauses 𝓛 mem run)
  octave-count_settled κs a g g' r r' ws ws' = one_answer 𝓤 _

  pub downsample_settled : Settles 𝓤 downsample.ended (downsample.clauses 𝓛 mem run)
  downsample_settled κs a g g' r r' ws ws' = one_value 𝓤 _ _ _ (λ x. x.answer) (λ x. untouched 3 (x.buffer, tt))

  -- ---- the kernels, and the levels of a raw map

  pub gaussian_settled : Settles 𝓤 gaussian.ended (gaussian.clauses 𝓛 mem run)
  gaussian_settled κs a g g' r r' ws ws' = one_answer 𝓤 _

  pub octave_kernel_settled : Settles 𝓤 octave-kernel.ended (octave-kernel.clauses 𝓛 mem run)
  octave_kernel_settled κs a g g' r r' ws ws' = one_answer 𝓤 _

  pub levels_settled : Settles 𝓤 levels.ended (levels.clauses 𝓛 mem run)
  levels_settled κs a g g' r r' ws ws' = one_value 𝓤 _ _ _ (λ x. x.answer) (λ x. untouched 5 (x.l0, (x.l1, (x.l2, (x.l3, tt)))))

  -- ---- a scene

  pub tiles_of_settled : Settles 𝓤 tiles-of.ended (tiles-of.clauses 𝓛 mem run)
  tiles_of_settled κs a g g' r r' ws ws' = one_answer 𝓤 _

  pub start_of_settled : Settles 𝓤 start_of_lem.ended (start_of_lem.clauses 𝓛 mem run)
  start_of_settled κs a g g' r r' ws ws' = one_answer 𝓤 _

  pub length_of_settled : Settles 𝓤 length-of.ended (length-of.clauses 𝓛 mem run)
  length_of_settled κs a g g' r r' ws ws' = one_answer 𝓤 _

  pub scene_checked_settled : Settles 𝓤 scene-checked.ended (scene-checked.clauses 𝓛 mem run)
  scene_checked_settled κs a g g' r r' ws ws' = one_answer 𝓤 _

  -- a scene's answer, the four tile slices and the output
  pub scene_settled : Settles 𝓤 scene.ended (scene.clauses 𝓛 mem run)
  scene_settled κs a g g' r r' ws ws' = one_value 𝓤 _ _ _ (λ x. x.answer) (λ x. untouched 9 (x.t0, (x.t1, (x.t2, (x.t3, (x.out, tt))))))

  -- ---- a partner's list: the answer; nothing is written

  pub accept_settled : Settles 𝓤 accept.ended (accept.clauses 𝓛 mem run)
  accept_settled κs a g g' r r' ws ws' = one_answer 𝓤 _

  -- ---- the desks' table: a call's answer and the whole table; a run's answer and the output

  pub is-runnable_settled : Settles 𝓤 is-runnable.ended (is-runnable.clauses 𝓛 mem run)
  is-runnable_settled κs a g g' r r' ws ws' = one_answer 𝓤 _

  pub set_in_settled : Settles 𝓤 set-in.ended (set-in.clauses 𝓛 mem run)
  set_in_settled κs a g g' r r' ws ws' = one_answer 𝓤 _

  pub claim_settled : Settles 𝓤 claim.ended (claim.clauses 𝓛 mem run)
  claim_settled κs a g g' r r' ws ws' = one_value 𝓤 _ _ _ (λ x. x.answer) (λ x. (x.table, untouched 2 tt))

  pub write_settled : Settles 𝓤 write.ended (write.clauses 𝓛 mem run)
  write_settled κs a g g' r r' ws ws' = one_value 𝓤 _ _ _ (λ x. x.answer) (λ x. (x.table, untouched 3 tt))

  pub release_settled : Settles 𝓤 release.ended (release.clauses 𝓛 mem run)
  release_settled κs a g g' r r' ws ws' = one_value 𝓤 _ _ _ (λ x. x.answer) (λ x. (x.table, untouched 2 tt))

  pub run_settled : Settles 𝓤 desk-run.ended (desk-run.clauses 𝓛 mem run)
  run_settled κs a g g' r r' ws ws' = one_value 𝓤 _ _ _ (λ x. x.answer) (λ x. untouched 10 (x.buffer, tt))

  -- ---- the store: a call's answer and the whole buffer

  pub clear_settled : Settles 𝓤 clear.ended (clear.clauses 𝓛 mem run)
  clear_settled κs a g g' r r' ws ws' = one_value 𝓤 _ _ _ (λ x. x.answer) (λ x. (x.buffer, tt))

  pub add_settled : Settles 𝓤 add.ended (add.clauses 𝓛 mem run)
  add_settled κs a g g' r r' ws ws' = one_value 𝓤 _ _ _ (λ x. x.answer) (λ x. (x.buffer, untouched 3 tt))

  pub strike_settled : Settles 𝓤 strike.ended (strike.clauses 𝓛 mem run)
  strike_settled κs a g g' r r' ws ws' = one_value 𝓤 _ _ _ (λ x. x.answer) (λ x. (x.buffer, untouched 3 tt))

  pub close-up_settled : Settles 𝓤 close_up.ended (close_up.clauses 𝓛 mem run)
  close-up_settled κs a g g' r r' ws ws' = one_value 𝓤 _ _ _ (λ x. x.answer) (λ x. (x.buffer, untouched 2 tt))

  -- ---- a level and its view

  pub pixel_at_settled : Settles 𝓤 pixel-at.ended (pixel-at.clauses 𝓛 mem run)
  pixel_at_settled κs a g g' r r' ws ws' = one_answer 𝓤 _

  pub sample_at_settled : Settles 𝓤 sample-at.ended (sample-at.clauses 𝓛 mem run)
  sample_at_settled κs a g g' r r' ws ws' = one_answer 𝓤 _

  pub view_of_settled : Settles 𝓤 view_of.ended (view_of.clauses 𝓛 mem run)
  view_of_settled κs a g g' r r' ws ws' = both_told 𝓤 (λ p q. (λ i. record { pixels = (p.0 ∙ sym q.0) i; rows = (p.1 ∙ sym q.1) i }, refl))

  pub pixel_in_settled : Settles 𝓤 pixel_in.ended (pixel_in.clauses 𝓛 mem run)
  pixel_in_settled κs a g g' r r' ws ws' = one_answer 𝓤 _

  pub response_in_settled : Settles 𝓤 response-in.ended (response-in.clauses 𝓛 mem run)
  response_in_settled κs a g g' r r' ws ws' = one_answer 𝓤 _

  pub response_of_settled : Settles 𝓤 response-of.ended (response-of.clauses 𝓛 mem run)
  response_of_settled κs a g g' r r' ws ws' = one_answer 𝓤 _

  -- ---- the feed, and the feed over bytes

  pub feed_start_settled : Settles 𝓤 feed-start.ended (feed-start.clauses 𝓛 mem run)
  feed_start_settled κs a g g' r r' ws ws' = one_answer 𝓤 _

  pub feed_column_settled : Settles 𝓤 feed-column.ended (feed-column.clauses 𝓛 mem run)
  feed_column_settled κs a g g' r r' ws ws' =
      one_value 𝓤 _ _ _ (λ x. x.answer) (λ x. (x.state, untouched 4 (x.ring.l0, (x.ring.l1, (x.ring.l2, (x.ring.l3, (x.out, tt)))))))

  pub start_settled : Settles 𝓤 start.ended (start.clauses 𝓛 mem run)
  start_settled κs a g g' r r' ws ws' = one_value 𝓤 _ _ _ (λ x. x.number) (λ x. untouched 9 (x.state, tt))

  pub column_settled : Settles 𝓤 column.ended (column.clauses 𝓛 mem run)
  column_settled κs a g g' r r' ws ws' =
      one_value 𝓤 _ _ _ (λ x. x.number) (λ x. (x.state, untouched 4 (x.ring.l0, (x.ring.l1, (x.ring.l2, (x.ring.l3, (x.out, (x.value, tt))))))))
