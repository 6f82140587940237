-- `set_of` meets its contract.
use mathlib.Core.Path.{◌≡◌}
use mathlib.Core.List.{List}
use Prim.Native.Nat.{ℕ}
use lib.ListN.{take, drop}
use lib.Ieee.{Float}
use Rattle.tables.specs.declared.Set.{Set}
use Rattle.words.specs.Words.{floats_at}
use Rattle.tables.specs.Set.{set_of}
use Rattle.tables.proofs.reader.set_of.Goals as goal

-- six tables read from their places are the record's set
whole : (b : List ℕ) (sigmas scale geometry spatial numbers : List Float) (order : List ℕ) → sigmas ≡ floats_at 4 b 0 → scale ≡ floats_at 12 b 4 → geometry ≡ floats_at 12 b 16 → spatial ≡ floats_at 90 b 28 → numbers ≡ floats_at 11 b 118 → order ≡ take 9 (drop 516 b) → ◌≡◌ {A = Set} (record { sigmas = sigmas; scale = scale; geometry = geometry; spatial = spatial; numbers = numbers; order = order }) (set_of b)
unfolding set_of
whole b sigmas scale geometry spatial numbers order g s t w n o = rw (g, s, t, w, n, o)

pub returns : goal.returns
returns c =
    whole
    _
    _
    _
    _
    _
    _
    _
    c.read_floats.ensures
    c.read_floats-2.ensures
    c.read_floats-3.ensures
    c.read_floats-4.ensures
    c.read_floats-5.ensures
    c.order_of-order.ensures
