-- No size has moved by the causes: less its cause, each answer is what it was, bit for bit. Assumes nothing.
use Rattle.std.specs.Prelude.{Option, Some, None, Result, Ok, Err}
use mathlib.Core.Path.{◌≡◌, refl}
use mathlib.Core.List.{List}
use mathlib.Core.Bool.{Bool, true, false, cond}
use lib.Ieee.{Float, neg}
use Rattle.float.specs.Num.{◌⊕◌, ◌⊘◌}
use Rattle.tables.specs.declared.Set.{Set}
use Rattle.tables.specs.declared.Missing.{Missing}
use Rattle.tables.specs.declared.Missing.TheVariants.{Range}
use Rattle.fit.specs.Cubic.{◌at◌}
use Rattle.fit.specs.Prims.{Prims}
use Rattle.profile.specs.Profile.{usable_energy, ratio_of, fitted_of, scaled_by, statistic_by}
use Rattle.profile.specs.declared.Absence.{Absence}
use Rattle.profile.specs.declared.Absence.TheVariants.{Energy}
use Rattle.size.specs.Correct.{beta_of, blend_beta_by, bounded_of, model_move_of, sigma_at, chosen_of, in_range, moved_of, corrected_by}
use Rattle.size.specs.Before as before
use Rattle.size.specs.declared.Geometry.{Geometry}

-- a statistic less its cause
plain : Result Float Absence → Option Float
plain (Ok x) = Some x
plain (Err why) = None

plain_cond : (b : Bool) (x : Result Float Absence) (why : Absence) → plain (cond b x (Err why)) ≡ cond b (plain x) None
unfolding plain
plain_cond true x why = refl
plain_cond false x why = refl

less-cond : (b : Bool) (x : Result Float Missing) (why : Missing) → before.less (cond b x (Err why)) ≡ cond b (before.less x) None
unfolding before.less
less-cond true x why = refl
less-cond false x why = refl

ratio-same : (residual whole : Float) → plain (ratio_of residual whole) ≡ before.ratio residual whole
unfolding ratio_of before.ratio plain
ratio-same residual whole = plain_cond (usable_energy residual whole) (Ok (residual ⊘ whole)) Energy

fitted-same : (x z : List Float) → plain (fitted_of x z) ≡ before.fitted x z
unfolding fitted_of before.fitted
fitted-same x z = simp (plain_cond, ratio-same)

scaled-same : (p : Prims) (x q : List Float) → plain (scaled_by p x q) ≡ before.scaled p x q
unfolding scaled_by before.scaled
scaled-same p x q = simp (plain_cond, fitted-same)

statistic-same : (p : Prims) (sigmas l : List Float) → plain (statistic_by p sigmas l) ≡ before.statistic p sigmas l
unfolding statistic_by before.statistic
statistic-same p sigmas l = simp (plain_cond, scaled-same)

beta-same : (g : Geometry) (x : Result Float Absence) → beta_of g x ≡ before.beta g (plain x)
unfolding beta_of before.beta plain
beta-same g (Ok x) = refl
beta-same g (Err why) = refl

moved_same : (g : Geometry) (k : List Float) (part t derivative curvature : Float) (is_max : Bool)
    → before.less (moved_of g k part t derivative curvature is_max) ≡ before.moved g k part t derivative curvature is_max
unfolding moved_of before.moved before.less
moved_same g k part t derivative curvature is_max =
    let move = bounded_of g part (neg derivative ⊘ curvature) in
    let sigma = sigma_at g (t ⊕ move) in
    less-cond (in_range g move (t ⊕ move) sigma) (Ok (chosen_of g k t move (model_move_of g part (k at 0) derivative curvature move) sigma is_max)) Range

-- less its cause, each answer is what it was before
pub sizes_as_before : (p : Prims) (s : Set) (l : List Float) (anchor : Float) (is_max : Bool) → before.less (corrected_by p s l anchor is_max) ≡ before.corrected p s l anchor is_max
unfolding corrected_by before.corrected blend_beta_by
sizes_as_before p s l anchor is_max = simp (less-cond, moved_same, beta-same, statistic-same)
