-- `ring::beats_all` meets its contract: each of the nine places passes its test.
use Rattle.std.proofs.Common.{rules, tests}
use native.Mathlib.Omega.{arith}
use mathlib.Core.Path.{refl, ◌∙◌}
use Rattle.std.proofs.lemmas.Iterator.{YieldsList-from_range}
use Rattle.std.proofs.lemmas.Iterator.Search.{all_from_yields_List}
use Rattle.pixel.specs.Ring.{all_of, beats_of, ring_by}
use Rattle.pixel.proofs.ring.beats_all.Goals as goal

pub returns : goal.returns
unfolding ring_by all_of
returns c =
    let a = c.args in
    all_from_yields_List (beats_of a.k.now a.peak a.band a.is_max) _ _ c.all.result c.all.ensures.ran (YieldsList-from_range 0 9 9 (cc) (omega arith)) (λ x b q k. search (rules, tests)) ∙ refl
