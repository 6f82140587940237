-- `repeat` meets its contract.
use native.Mathlib.Omega.{arith}
use Prim.Native.Nat.{ℕ, ◌+◌, ◌-◌, ◌≤◌}
use mathlib.Core.Path.{◌≡◌, sym, ◌∙◌}
use mathlib.Core.List.{List, append_assoc}
use lib.ListN.{length, take, drop, replicate, length-take, length-drop}
use lib.Seq.{sets, sets-eq, drop-drop}
use lib.Ieee.{Float}
use borrow.Rule.Slice.PartMut.{put_mid}
use Rattle.grid.specs.Grid.{list_of}
use Rattle.lines.proofs.repeat.Goals as goal

filled : (out : List Float) (at n : ℕ) (x : Float) → at + 16 ≤ length out → n ≡ 16 → put_mid at (at + 16 - at) out (replicate n x) ≡ sets out at (list_of (λ i. x) 16)
unfolding list_of
filled out at n x h e =
    let w : at + 16 - at ≡ 16 = omega arith in
    rw (e, w, drop-drop 16 at out) (sym (sets-eq (replicate 16 x) out at (omega arith) ∙ append_assoc (take at out) (replicate 16 x) (drop (at + 16) out)))

pub returns : goal.returns
returns c =
    let a = c.args in
    record { floats = rw (c.fill.ensures.after (λ y e. e)) (filled a.out.now a.at _ a.x c.requires (simp (length-take, length-drop) (omega arith))) }
