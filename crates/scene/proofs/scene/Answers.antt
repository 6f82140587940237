-- `scene` meets its contract.
use Rattle.std.proofs.lemmas.Result.{err_from_is_err_and}
use mathlib.Core.Path.{sym, ◌∙◌}
use Rattle.scene_checks.proofs.ChecksLaws.{opens}
use Rattle.scene.specs.Scene.{scene_of, scene_by}
use borrow.Author.Rules.{rules}
use Rattle.scene.proofs.scene.Goals as goal

pub run-requires : goal.run-requires
run-requires c = opens _ _ _ _ _ _ _ _ _ _ _ _ _ (sym c.checked.ensures ∙ c.in_ok-checked.was)

pub returns-in_err-checked : goal.returns-in_err-checked
unfolding scene_of scene_by
returns-in_err-checked c =
    let p = err_from_is_err_and c.from_residual.result c.from_residual.ensures.1 in
    rw (p.1, p.2, ← c.checked.ensures, c.in_err-checked.was)

pub returns : goal.returns
unfolding scene_of scene_by
returns c = rw (← c.checked.ensures, c.in_ok-checked.was) c.run.ensures
