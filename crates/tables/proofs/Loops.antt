-- The test of every element is the library's.
use mathlib.Core.Path.{◌≡◌, refl}
use mathlib.Core.Bool.{Bool}
use mathlib.Core.List.{List, [], ◌∷◌}
use Rattle.std.specs.List.{list_all}
use Rattle.tables.specs.Set.{every}

pub every_is : {A : Type 0} (p : A → Bool) (l : List A) → every p l ≡ list_all p l
unfolding every
every_is p [] = refl
every_is p (x ∷ l) = rw (every_is p l)
