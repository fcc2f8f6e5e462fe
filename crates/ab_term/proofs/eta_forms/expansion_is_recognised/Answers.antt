use Rattle.ab_term.proofs.Recognising.{recognised, expands-Decides, expansion_of_one}
use Rattle.ab_term.proofs.eta_forms.expansion_is_recognised.Goals as goal

pub returns-clause-found : goal.returns-clause-found
returns-clause-found g c = λ A x t h e. recognised x A t h e

pub returns-clause-tested : goal.returns-clause-tested
returns-clause-tested g c = λ A x t h. ((expands-Decides x A t h).0, (expands-Decides x A t h).1)

pub returns-clause-one : goal.returns-clause-one
returns-clause-one g c = λ A B x y i h ts us e. expansion_of_one x y A B i h ts us e
