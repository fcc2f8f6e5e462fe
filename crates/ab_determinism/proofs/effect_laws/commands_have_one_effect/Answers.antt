use Rattle.ab_determinism.proofs.OneEffect.{one_effect}
use Rattle.ab_determinism.proofs.effect_laws.commands_have_one_effect.Goals as goal

pub returns-clause-replies : goal.returns-clause-replies
returns-clause-replies c = λ s bytes loads others rest more r q t u sound alike a b. (one_effect s sound bytes rest more alike a b).0

pub returns-clause-states : goal.returns-clause-states
returns-clause-states c = λ s bytes loads others rest more r q t u sound alike a b. (one_effect s sound bytes rest more alike a b).1

pub returns-clause-loads : goal.returns-clause-loads
returns-clause-loads c = λ s bytes loads others rest more r q t u sound alike a b. (one_effect s sound bytes rest more alike a b).2
