use Rattle.ab_term.proofs.Expansions.{expansion_typed, expansion_of_typed}
use Rattle.ab_term.proofs.eta_forms.expansion_is_canonical.Goals as goal

pub returns-clause-whole : goal.returns-clause-whole
returns-clause-whole g c = λ sg G A x h e. expansion_typed sg x A G h e

pub returns-clause-given : goal.returns-clause-given
returns-clause-given g c = λ sg G A B x h ts e ds. expansion_of_typed sg x B G h A ts e ds
