-- `float::root::root_scaled` meets its contract. Assumes nothing.
use mathlib.Core.Path.{◌≡◌, sym, ap, ◌∙◌, subst}
use Prim.Native.Nat.{ℕ, ◌%◌, ◌^◌, ◌≤◌, ◌<◌}
use native.Mathlib.Omega.{arith}
use lib.Bits.{bit_and, and_mask}
use Rattle.float.specs.Root.{near_root}
use Rattle.float.proofs.Roots.{near_le}
use Rattle.float.proofs.Scaled.{eight, few, twice, machine, under, under-lt, pattern_is}
use Rattle.float.proofs.root.root_scaled.Goals as goal
use Rattle.float.proofs.root.root_scaled.Goals.{After-near_root-q}

-- the lowest digit of twice the root's exponent, or of one more
lowest : (m k : ℕ) → bit_and (twice m k) 1 ≡ twice m k % 2
lowest m k = and_mask (twice m k) 1

root_is : (c : After-near_root-q) → c.near_root-q.result ≡ near_root (under c.args.m c.args.k)
root_is c =
    c.near_root-q.ensures ∙ ap near_root (machine c.args.m c.args.k c.requires.m_nonzero.0 c.requires.m_nonzero.1 c.to_u64.result _ c.to_u64.ensures (lowest c.args.m c.args.k))

root-le : (c : After-near_root-q) → c.near_root-q.result ≤ 2 ^ 24
root-le c =
    subst (λ (x : ℕ). x ≤ 2 ^ 24) (sym (root_is c)) (near_le (under c.args.m c.args.k) (under-lt c.args.m c.args.k c.requires.m_nonzero.0 c.requires.m_nonzero.1))

pub overflow_sub-zeros : goal.overflow_sub-zeros
overflow_sub-zeros c = eight c.args.m c.requires.m_nonzero.0 c.requires.m_nonzero.1

pub overflow_sub-e : goal.overflow_sub-e
overflow_sub-e c = omega (arith, few c.args.m c.requires.m_nonzero.0 c.requires.m_nonzero.1)

pub overflow_shl-m : goal.overflow_shl-m
overflow_shl-m c = omega (arith, few c.args.m c.requires.m_nonzero.0 c.requires.m_nonzero.1)

pub overflow_add-e-2 : goal.overflow_add-e-2
overflow_add-e-2 c = omega (arith, lowest c.args.m c.args.k)

pub overflow_cast-e : goal.overflow_cast-e
overflow_cast-e c = omega (arith, lowest c.args.m c.args.k)

pub overflow_shl-to_u64 : goal.overflow_shl-to_u64
overflow_shl-to_u64 c = omega (arith, lowest c.args.m c.args.k)

pub near_root-q-requires : goal.near_root-q-requires
near_root-q-requires c =
    let m = c.args.m in
    let k = c.args.k in
    subst (λ (x : ℕ). x < 2 ^ 48) (sym (machine m k c.requires.m_nonzero.0 c.requires.m_nonzero.1 c.to_u64.result _ c.to_u64.ensures (lowest m k))) (under-lt m k c.requires.m_nonzero.0 c.requires.m_nonzero.1)

pub overflow_cast-result : goal.overflow_cast-result
overflow_cast-result c = let l = root-le (goal.at.overflow_cast-result c).After-near_root-q in omega arith

pub overflow_add-result : goal.overflow_add-result
overflow_add-result c = let l = root-le (goal.at.overflow_add-result c).After-near_root-q in omega arith

pub returns : goal.returns
returns c =
    rw (root_is (goal.at.returns c).After-near_root-q) (pattern_is c.args.m c.args.k c.requires.m_nonzero.0 c.requires.m_nonzero.1)
