use Rattle.ab_term.proofs.InOrder.{one_by_one-at_once, at_once_typed, one_by_one-append}
use Rattle.ab_term.proofs.substitution_laws.one_by_one_is_at_once.Goals as goal

pub returns-clause-image : goal.returns-clause-image
returns-clause-image g c = λ sg same s all G A t d. one_by_one-at_once sg same s all d

pub returns-clause-typed : goal.returns-clause-typed
returns-clause-typed g c = λ sg same s all. at_once_typed sg same s all

pub returns-clause-more : goal.returns-clause-more
returns-clause-more g c = λ same s r t. one_by_one-append same s r t
