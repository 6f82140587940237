-- A part of a list of bytes, given by where it begins and ends, and a list written over whole. Assumes nothing.
use Prim.Native.Nat.{ℕ, ◌+◌, ◌-◌, ◌≤◌}
use native.Mathlib.Omega.{arith}
use mathlib.Core.List.{List, ◌++◌, append-nil}
use mathlib.Core.Path.{◌≡◌, ap, ◌∙◌}
use lib.ListN.{length, take, drop, length-take, length-drop}
use lib.Seq.{sets, sets-eq, drop-length}

-- the part of w bytes from the byte at on
pub part_is : (w : ℕ) (b : List ℕ) (at : ℕ) → take (at + w - at) (drop at b) ≡ take w (drop at b)
part_is w b at = let e : at + w - at ≡ w = omega arith in rw e

pub part_long : (w : ℕ) (b : List ℕ) (at : ℕ) → at + w ≤ length b → length (take (at + w - at) (drop at b)) ≡ w
part_long w b at h = rw (part_is w b at) (omega (arith, length-take w (drop at b), length-drop at b))

-- a list of as many bytes, stored over all of it
pub sets-all : (l vs : List ℕ) → length vs ≡ length l → sets l 0 vs ≡ vs
sets-all l vs e =
    let place : 0 + length vs ≡ length l = omega arith in
    sets-eq vs l 0 (omega arith) ∙ ap (λ (k : ℕ). vs ++ drop k l) place ∙ ap (λ (r : List ℕ). vs ++ r) (drop-length l) ∙ append-nil vs
