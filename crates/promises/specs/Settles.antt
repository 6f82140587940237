-- What it is for a promise to settle what a call leaves. Definitions only.
use Rattle.std.specs.Prelude.{◌≡◌}
use seplogic.Ra.Ura.{Ura}
use seplogic.Bi.Sat.{Sat}
use contract.Lifetimes.{Lfts}
use denote.Triple.Entry.{Args, Res}
use denote.Triple.Clauses.{Ended, Clauses, Lasts, at_exit}

module _ {M : Type 1} (𝓤 : Ura M) (T : Ended) (c : Clauses 𝓤 T) where
  -- any two calls that the promise allows at the same arguments are alike. The promise is c, the clauses that Rattle makes of a function's `ensures`. A
  -- call leaves a result r and, in ws, what lies behind each lent parameter after it; the promise allows the call where its clauses can hold of r and ws
  abbrev pub AllAlike : ((κs : Lfts T.signature.lifetimes) (a : Args T.signature κs) (r r' : Res T.signature κs) (ws ws' : Lasts T κs a) → Type 0) → Type 1
  AllAlike Alike =
      (κs : Lfts T.signature.lifetimes) (a : Args T.signature κs) (g g' : (c κs a).ghost) (r r' : Res T.signature κs) (ws ws' : Lasts T κs a)
      → Sat 𝓤.op ((c κs a).ensures g r (at_exit T κs a ws))
      → Sat 𝓤.op ((c κs a).ensures g' r' (at_exit T κs a ws'))
      → ∥ Alike κs a r r' ws ws' ∥₁

  -- the promise settles what a call leaves: the results are equal, and so is what lies behind each lent parameter
  abbrev pub Settles : Type 1
  Settles = AllAlike (λ κs a r r' ws ws'. (r ≡ r') × (ws ≡ ws'))
