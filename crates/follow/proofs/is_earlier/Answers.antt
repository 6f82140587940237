-- `is_earlier` meets its contract: the pairs' order, by their parts.
use Rattle.std.proofs.Common.{◌≡◌, ◌∙◌, refl, Bool, true, false, cond, ◌&&◌, ◌||◌, Some, Less, Equal, Greater}
use Rattle.std.specs.Ordering.{partial_ordering_then, is_lt, is_some_and}
use lib.Dec.{ltb, eqb}
use Rattle.follow.specs.Follow.{earlier}
use Rattle.follow.proofs.is_earlier.Goals as goal

-- where a says that the first part is smaller, e that it is equal, and b and f the same of the second part
by_parts : (a e b f : Bool) → is_some_and is_lt (partial_ordering_then (Some (cond a Less (cond e Equal Greater))) (Some (cond b Less (cond f Equal Greater)))) ≡ a || (e && b)
by_parts true e b f = refl
by_parts false false b f = refl
by_parts false true true f = refl
by_parts false true false true = refl
by_parts false true false false = refl

pub returns : goal.returns
unfolding earlier
returns c =
    let r = c.args.r in
    let t = c.args.t in
    c.lt.ensures ∙ by_parts (ltb r.key t.key) (eqb r.key t.key) (ltb r.polarity t.polarity) (eqb r.polarity t.polarity)
