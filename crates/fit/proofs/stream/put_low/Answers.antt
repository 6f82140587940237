use Rattle.fit.specs.Envelope.{put_low}
use Rattle.fit.proofs.stream.put_low.Goals as goal

pub returns-then-test : goal.returns-then-test
unfolding put_low
returns-then-test c = rw c.if-test.true

pub returns-else-test : goal.returns-else-test
unfolding put_low
returns-else-test c = rw c.if-test.false
