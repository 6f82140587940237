-- `quick::guessed::tried` meets its contract. Assumes nothing.
use Rattle.std.proofs.Common.{ℕ, ◌<◌, ◌≤◌, T, eqb, sym, ap, ◌∙◌, subst, eqb→eq}
use Rattle.float.proofs.Bools.{both}
use Rattle.float.specs.Pattern.{units_of}
use Rattle.float.specs.Sqrt.{root_pattern}
use Rattle.quick.proofs.Normal.{found}
use Rattle.quick.proofs.guessed.tried.Goals as goal

pub returns : goal.returns
returns c =
    let b = c.bits-b in
    let n = c.normal-p in
    let t = c.attempt-t in (
      t.ensures.0,
      λ near.
          let q = both (eqb n.result b.result) t.result.near near in
          let e = eqb→eq n.result b.result (subst T (sym q.0) tt) ∙ b.ensures in
          found c.args.d t.result.root (subst T (sym c.well_formed.0.1) tt) (subst (λ (y : ℕ). 0x80_0000 ≤ y) e n.ensures.0) (subst (λ (y : ℕ). y < 0x7f80_0000) e n.ensures.1)
          (t.ensures.1 q.1 ∙ ap (λ (y : ℕ). root_pattern (units_of y)) e),
    )
