use Rattle.ab_unifiers.proofs.Problems.{step_typed}
use Rattle.ab_unifiers.proofs.unification_laws.a_step_keeps_types.Goals as goal

pub returns : goal.returns
returns g c = λ sg x s r p e. step_typed sg x s r p e
