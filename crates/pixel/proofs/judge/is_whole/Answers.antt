-- `judge::is_whole` meets its contract: each place passes the test of its samples.
use Rattle.std.proofs.Common.{rules, tests}
use mathlib.Core.Path.{◌∙◌}
use Rattle.std.proofs.lemmas.Iterator.{YieldsList-from_slice}
use Rattle.std.proofs.lemmas.Iterator.Search.{all_from_yields_List}
use Rattle.fit.specs.Band.{finite_cubic}
use Rattle.pixel.proofs.NineLaws.{whole_all}
use Rattle.pixel.proofs.judge.is_whole.Goals as goal

pub returns : goal.returns
returns c = all_from_yields_List finite_cubic _ _ _ c.all.ensures.ran (YieldsList-from_slice c.args.nine cc) (λ x b q k. search (rules, tests)) ∙ whole_all c.args.nine
