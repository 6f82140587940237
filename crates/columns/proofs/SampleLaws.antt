-- A turn of the loop over samples. Assumes nothing.
use Prim.Native.Nat.{ℕ, ◌+◌, ◌<◌}
use mathlib.Core.Path.{◌≡◌}
use mathlib.Core.List.{List}
use lib.ListN.{length, set}
use lib.Ieee.{Float, nan}
use Rattle.columns.specs.Sample.{stencil_at, Samples}
use Rattle.columns.proofs.LineLaws.{written_none, written_next}

module _ (l0 l1 l2 l3 : List Float) (q0 q1 q2 q3 : Float) (left mid right : ℕ) (a b c d : List Float) where
  pub samples_none : Samples l0 l1 l2 l3 q0 q1 q2 q3 left mid right 0 a b c d a b c d
  samples_none = record { first = written_none nan a 0 _; second = written_none nan b 0 _; third = written_none nan c 0 _; fourth = written_none nan d 0 _ }

  pub samples_more : (i : ℕ) (x y u v : Float) {a₁ b₁ c₁ d₁ : List Float} → Samples l0 l1 l2 l3 q0 q1 q2 q3 left mid right i a b c d a₁ b₁ c₁ d₁ →
      i < length a → i < length b → i < length c → i < length d →
      x ≡ stencil_at l0 (left + i) (mid + i) (right + i) q0 → y ≡ stencil_at l1 (left + i) (mid + i) (right + i) q1 → u ≡ stencil_at l2 (left + i) (mid + i) (right + i) q2 → v ≡ stencil_at l3 (left + i) (mid + i) (right + i) q3 →
      Samples l0 l1 l2 l3 q0 q1 q2 q3 left mid right (i + 1) a b c d (set a₁ i x) (set b₁ i y) (set c₁ i u) (set d₁ i v)
  samples_more i x y u v w la lb lc ld ea eb ec ed = record {
    first = written_next nan x w.first la ea;
    second = written_next nan y w.second lb eb;
    third = written_next nan u w.third lc ec;
    fourth = written_next nan v w.fourth ld ed;
  }
