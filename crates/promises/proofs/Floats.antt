-- The promises of the float helpers, and of their C functions, settle the answer. Assumes nothing.
use seplogic.Ra.Ura.{Ura}
use base.Logic.{SProp}
use prog.Memory.{Memory}
use prog.Routine.{Routine}
use types.Logic.{Logic}
use contract.Monad.{Fun}
use Rattle.float.specs.contracts.abs as abs
use Rattle.float.specs.contracts.min as min
use Rattle.float.specs.contracts.max as max
use Rattle.float.specs.contracts.clamp as clamp
use Rattle.float.specs.contracts.is_finite as is_finite
use Rattle.float.specs.contracts.sqrt as sqrt
use Rattle.float.specs.contracts.lead as lead
use Rattle.float.specs.contracts.field as field
use Rattle.float.specs.contracts.to_u64 as to-u64
use Rattle.logexp.specs.contracts.log2 as log2
use Rattle.logexp.specs.contracts.exp as exp
use Rattle.whole.specs.contracts.nearest as nearest
use Rattle.quick.specs.contracts.sqrt as quick-sqrt
use Rattle.float_c.specs.contracts.uramsheg_abs as uramsheg-abs
use Rattle.float_c.specs.contracts.uramsheg_min as uramsheg-min
use Rattle.float_c.specs.contracts.uramsheg_max as uramsheg-max
use Rattle.float_c.specs.contracts.uramsheg_clamp as uramsheg-clamp
use Rattle.float_c.specs.contracts.uramsheg_is_finite as uramsheg-is-finite
use Rattle.float_c.specs.contracts.uramsheg_sqrt as uramsheg-sqrt
use Rattle.float_c.specs.contracts.uramsheg_log2 as uramsheg-log2
use Rattle.float_c.specs.contracts.uramsheg_exp as uramsheg-exp
use Rattle.float_c.specs.contracts.uramsheg_nearest as uramsheg-nearest
use Rattle.promises.specs.Settles.{Settles}
use Rattle.promises.proofs.Facts.{one_answer}

module _ {M : Type 1} {𝓤 : Ura M} (𝓛 : Logic 𝓤) (mem : Memory → SProp 𝓤) (run : Routine → Fun 𝓤) where
  -- ---- the helpers

  pub abs_settled : Settles 𝓤 abs.ended (abs.clauses 𝓛 mem run)
  abs_settled κs a g g' r r' ws ws' = one_answer 𝓤 _

  pub min_settled : Settles 𝓤 min.ended (min.clauses 𝓛 mem run)
  min_settled κs a g g' r r' ws ws' = one_answer 𝓤 _

  pub max_settled : Settles 𝓤 max.ended (max.clauses 𝓛 mem run)
  max_settled κs a g g' r r' ws ws' = one_answer 𝓤 _

  pub clamp_settled : Settles 𝓤 clamp.ended (clamp.clauses 𝓛 mem run)
  clamp_settled κs a g g' r r' ws ws' = one_answer 𝓤 _

  pub is-finite_settled : Settles 𝓤 is_finite.ended (is_finite.clauses 𝓛 mem run)
  is-finite_settled κs a g g' r r' ws ws' = one_answer 𝓤 _

  pub sqrt_settled : Settles 𝓤 sqrt.ended (sqrt.clauses 𝓛 mem run)
  sqrt_settled κs a g g' r r' ws ws' = one_answer 𝓤 _

  pub log2_settled : Settles 𝓤 log2.ended (log2.clauses 𝓛 mem run)
  log2_settled κs a g g' r r' ws ws' = one_answer 𝓤 _

  pub exp_settled : Settles 𝓤 exp.ended (exp.clauses 𝓛 mem run)
  exp_settled κs a g g' r r' ws ws' = one_answer 𝓤 _

  pub nearest_settled : Settles 𝓤 nearest.ended (nearest.clauses 𝓛 mem run)
  nearest_settled κs a g g' r r' ws ws' = one_answer 𝓤 _

  -- ---- inside: a pattern's parts, and the guessed root

  pub lead_settled : Settles 𝓤 lead.ended (lead.clauses 𝓛 mem run)
  lead_settled κs a g g' r r' ws ws' = one_answer 𝓤 _

  pub field_settled : Settles 𝓤 field.ended (field.clauses 𝓛 mem run)
  field_settled κs a g g' r r' ws ws' = one_answer 𝓤 _

  pub to_u64_settled : Settles 𝓤 to-u64.ended (to-u64.clauses 𝓛 mem run)
  to_u64_settled κs a g g' r r' ws ws' = one_answer 𝓤 _

  pub quick_sqrt_settled : Settles 𝓤 quick-sqrt.ended (quick-sqrt.clauses 𝓛 mem run)
  quick_sqrt_settled κs a g g' r r' ws ws' = one_answer 𝓤 _

  -- ---- for C

  pub uramsheg_abs_settled : Settles 𝓤 uramsheg-abs.ended (uramsheg-abs.clauses 𝓛 mem run)
  uramsheg_abs_settled κs a g g' r r' ws ws' = one_answer 𝓤 _

  pub uramsheg_min_settled : Settles 𝓤 uramsheg-min.ended (uramsheg-min.clauses 𝓛 mem run)
  uramsheg_min_settled κs a g g' r r' ws ws' = one_answer 𝓤 _

  pub uramsheg_max_settled : Settles 𝓤 uramsheg-max.ended (uramsheg-max.clauses 𝓛 mem run)
  uramsheg_max_settled κs a g g' r r' ws ws' = one_answer 𝓤 _

  pub uramsheg_clamp_settled : Settles 𝓤 uramsheg-clamp.ended (uramsheg-clamp.clauses 𝓛 mem run)
  uramsheg_clamp_settled κs a g g' r r' ws ws' = one_answer 𝓤 _

  pub uramsheg_is-finite_settled : Settles 𝓤 uramsheg-is-finite.ended (uramsheg-is-finite.clauses 𝓛 mem run)
  uramsheg_is-finite_settled κs a g g' r r' ws ws' = one_answer 𝓤 _

  pub uramsheg_sqrt_settled : Settles 𝓤 uramsheg-sqrt.ended (uramsheg-sqrt.clauses 𝓛 mem run)
  uramsheg_sqrt_settled κs a g g' r r' ws ws' = one_answer 𝓤 _

  pub uramsheg_log2_settled : Settles 𝓤 uramsheg-log2.ended (uramsheg-log2.clauses 𝓛 mem run)
  uramsheg_log2_settled κs a g g' r r' ws ws' = one_answer 𝓤 _

  pub uramsheg_exp_settled : Settles 𝓤 uramsheg-exp.ended (uramsheg-exp.clauses 𝓛 mem run)
  uramsheg_exp_settled κs a g g' r r' ws ws' = one_answer 𝓤 _

  pub uramsheg_nearest_settled : Settles 𝓤 uramsheg-nearest.ended (uramsheg-nearest.clauses 𝓛 mem run)
  uramsheg_nearest_settled κs a g g' r r' ws ws' = one_answer 𝓤 _
