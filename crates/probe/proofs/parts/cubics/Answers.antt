-- `parts::cubics` meets its contract.
use Rattle.probe.proofs.Numbers.{fours_taken}
use Rattle.probe.proofs.parts.cubics.Goals as goal

pub returns : goal.returns
returns c = rw (c.numbers.ensures, c.numbers-2.ensures, c.numbers-3.ensures, c.numbers-4.ensures, c.numbers-5.ensures, c.numbers-6.ensures, c.numbers-7.ensures, c.numbers-8.ensures, c.numbers-9.ensures) (fours_taken c.args.k.now)
