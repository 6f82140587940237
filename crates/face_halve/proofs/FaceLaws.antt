-- What downsample's face leaves of an outcome.
use Rattle.std.specs.Prelude.{Result}
use Prim.Native.Nat.{ℕ}
use mathlib.Core.List.{List}
use mathlib.Core.Path.{◌≡◌, ap}
use lib.Ieee.{Float}
use Rattle.pyramid.specs.Pyramid as pyramid
use Rattle.face_halve.specs.Face.{halved_number, rows_after, cols_after, halved_left}
use Rattle.tables.specs.declared.Refusal.{Refusal}

pub halved_left-by : {a : Result (ℕ × ℕ) Refusal} {o : List Float} {r v w : ℕ} {d : pyramid.Outcome} (p q : ℕ) → r ≡ halved_number a → v ≡ rows_after a p → w ≡ cols_after a q → pyramid.outcome a o ≡ d
    → halved_left r v w o ≡ halved_left (halved_number d.answer) (rows_after d.answer p) (cols_after d.answer q) d.buffer
halved_left-by p q r-is v-is w-is e =
    rw (r-is, v-is, w-is) (ap (λ (x : pyramid.Outcome). halved_left (halved_number x.answer) (rows_after x.answer p) (cols_after x.answer q) x.buffer) e)
