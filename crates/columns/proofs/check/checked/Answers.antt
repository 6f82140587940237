-- `check::checked` meets its contract.
use mathlib.Core.Path.{sym, subst}
use native.Mathlib.Nat.{le_of_lt}
use lib.Dec.{T}
use Rattle.float.proofs.Patterns.{not-nan_pattern}
use Rattle.columns.proofs.KnownLaws.{known_by}
use Rattle.columns.proofs.check.checked.Goals as goal

pub float_from_bits-t : goal.float_from_bits-t
float_from_bits-t c = not-nan_pattern _ (le_of_lt c.tried-t.ensures.0)

pub returns : goal.returns
returns c =
    let t = c.tried-t in
    rw (c.pick-2.ensures, c.pick.ensures) (known_by c.args.d _ t.result.near (subst T (sym c.well_formed.0.1) tt) t.ensures.1)
