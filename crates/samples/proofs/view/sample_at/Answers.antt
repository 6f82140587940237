-- `view::sample_at` meets its contract: its five floats are the sample's five pixels.
use Rattle.samples.specs.Level.{stencil_of}
use Rattle.samples.proofs.ViewLaws.{sample_around}
use Rattle.samples.proofs.view.sample_at.Goals as goal

pub returns : goal.returns
unfolding stencil_of
returns c =
    rw (
      c.pixel_at-centre.ensures,
      c.float_after-down.ensures,
      c.pixel_at-up.ensures,
      c.previous-2.ensures,
      c.float_after-right.ensures,
      c.pixel_at-left.ensures,
      c.previous.ensures,
    )
    (sample_around _ _ _ _ _)
