-- `given_sigma` meets its contract.
use mathlib.Core.Path.{◌≡◌, refl, ◌∙◌}
use lib.Ieee.{Float}
use Rattle.std.specs.Prelude.{Result, Ok, Err}
use Rattle.std.specs.Result.{result_unwrap_or}
use Rattle.float.specs.Num.{f0}
use Rattle.tables.specs.declared.Missing.{Missing}
use Rattle.sized.specs.Sized.{given_sigma}
use Rattle.sized.proofs.given_sigma.Goals as goal

or-zero : (size : Result Float Missing) → result_unwrap_or size f0 ≡ given_sigma size
unfolding given_sigma
or-zero (Ok sigma) = refl
or-zero (Err why) = refl

pub returns : goal.returns
returns c = c.unwrap_or.ensures ∙ or-zero c.args.size
