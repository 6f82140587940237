-- What a list of candidates raises. Assumes nothing.
use Prim.Native.Nat.{ℕ, ◌%◌}
use mathlib.Core.Path.{◌≡◌, subst}
use mathlib.Core.Logic.{◌⊎◌}
use mathlib.Core.List.{List}
use lib.ListN.{get_or}
use Rattle.rivals.specs.List.{Among, Raised}

-- a code of the list has raised its pixel, or has Q
pub raised_code : {Q : ℕ → Type 0} {codes keep keep' : List ℕ} {k e : ℕ} → Raised Q codes k keep keep' → Among codes k e → (get_or keep' (e % 780) 0 ≡ 1) ⊎ Q e
raised_code {Q} {keep' = keep'} raised here = subst (λ (e : ℕ). (get_or keep' (e % 780) 0 ≡ 1) ⊎ Q e) here.is (raised.done here.place here.inside)
