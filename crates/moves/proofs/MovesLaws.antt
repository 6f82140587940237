-- Laws of displacements. Assumes nothing.
use mathlib.Core.Path.{◌≡◌, refl, sym, ◌∙◌}
use mathlib.Core.Bool.{Bool, true, false, false≢true, cond}
use borrow.Author.Tests.{not-true}
use lib.Dec.{T}
use lib.Ieee.{Float, binary32, fits, of_bits, lt, eq}
use Rattle.float.specs.Small.{finite, abs_of}
use Rattle.float.specs.Num.{f0, f0_6}
use Rattle.float.proofs.Bools.{both}
use Rattle.moves.specs.Moves.{nearby, kept_of}

-- a displacement that passes is finite and not above 0.6 in size
pub nearby_bounds : (d : Float) → nearby d ≡ true → (finite d ≡ true) × (lt f0_6 (abs_of d) ≡ false)
unfolding nearby
nearby_bounds d h = let parts = both (finite d) _ h in (parts.0, not-true _ parts.1)

-- no displacement at all passes
pub zero_nearby : nearby f0 ≡ true
unfolding nearby finite abs_of of_bits lt
zero_nearby = refl

-- what passes does so as it is kept
pub kept-nearby : (d : Float) → nearby d ≡ true → nearby (kept_of d) ≡ true
unfolding kept_of
kept-nearby d h = go (eq d f0)
  where
    go : (t : Bool) → nearby (cond t f0 d) ≡ true
    go true = zero_nearby
    go false = h

-- a value of binary32 stays one
pub kept-fits : (d : Float) → T (fits binary32 d) → T (fits binary32 (kept_of d))
unfolding kept_of fits of_bits
kept-fits d h = go (eq d f0)
  where
    go : (t : Bool) → T (fits binary32 (cond t f0 d))
    go true = tt
    go false = h

-- a zero, of whichever sign, is kept as +0
pub zero_kept : (d : Float) → eq d f0 ≡ true → kept_of d ≡ f0
unfolding kept_of
zero_kept d h = rw h

-- so a zero that is kept is +0
pub kept_positive : (d : Float) → eq (kept_of d) f0 ≡ true → kept_of d ≡ f0
unfolding kept_of
kept_positive d h = go (eq d f0) refl h
  where
    go : (t : Bool) → eq d f0 ≡ t → eq (cond t f0 d) f0 ≡ true → cond t f0 d ≡ f0
    go true e g = refl
    go false e g = absurd (false≢true (sym e ∙ g))

-- and any other displacement as it is
pub other_kept : (d : Float) → eq d f0 ≡ false → kept_of d ≡ d
unfolding kept_of
other_kept d h = rw h
