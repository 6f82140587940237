-- `correct` meets its contract.
use mathlib.Core.Path.{◌≡◌, ap}
use lib.Ieee.{Float}
use Rattle.std.specs.Prelude.{Result, Ok, Err, MatchResult, IsErrAnd}
use Rattle.std.proofs.lemmas.Result.{err_from_is_err_and}
use Rattle.tables.specs.declared.Missing.{Missing}
use Rattle.tables.specs.declared.Refusal.{Refusal}
use Rattle.tables.specs.declared.Refusal.TheVariants as refusal
use Rattle.size.specs.Correct.{answer_of, correct_by}
use Rattle.size.proofs.correct.Goals as goal

-- a size stays, and a cause becomes the refusal that names it
by-cause : (c : Result Float Missing) (r : Result Float Refusal)
    → MatchResult c (λ x. r ≡ Ok x) (λ why. IsErrAnd r (λ y. y ≡ refusal.NoSize why)) → r ≡ answer_of c
unfolding answer_of
by-cause (Ok x) r h = h
by-cause (Err why) r h = let p = err_from_is_err_and r h in rw (p.1, p.2)

pub returns-then-not-is_good : goal.returns-then-not-is_good
unfolding correct_by answer_of
returns-then-not-is_good c = rw (← c.is_good.ensures, c.if-not-is_good.true)

pub returns : goal.returns
unfolding correct_by
returns c = rw (← c.is_good.ensures, c.if-not-is_good.false, ← c.corrected_sigma_from_anchor.ensures) (by-cause _ _ c.map_err.ensures.cases)
