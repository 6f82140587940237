use Rattle.fit.specs.Envelope.{put_high}
use Rattle.fit.proofs.stream.put_high.Goals as goal

pub returns-then-test : goal.returns-then-test
unfolding put_high
returns-then-test c = rw c.if-test.true

pub returns-else-test : goal.returns-else-test
unfolding put_high
returns-else-test c = rw c.if-test.false
