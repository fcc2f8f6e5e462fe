use Rattle.ab_term.proofs.Closed.{append_typed, reach_within}
use Rattle.ab_term.proofs.Contexts.{inserted}
use Rattle.ab_term.proofs.Preservation.{shift_typed}
use Rattle.ab_term.proofs.Strengthening.{unshift_typed, front_typed, expansion_head}
use Rattle.ab_term.proofs.typing.bound_names_come_and_go.Goals as goal

pub returns-clause-more : goal.returns-clause-more
returns-clause-more g c = λ sg G more A t d. append_typed sg more d

pub returns-clause-one_more : goal.returns-clause-one_more
returns-clause-one_more g c = λ sg Ds G A B t d. shift_typed sg (inserted Ds A G) d

pub returns-clause-one_less : goal.returns-clause-one_less
returns-clause-one_less g c = λ sg Ds G A B t d. unshift_typed sg t (inserted Ds A G) d

pub returns-clause-less : goal.returns-clause-less
returns-clause-less g c = λ sg Ds G A t l d. front_typed sg Ds G t l d

pub returns-clause-heads : goal.returns-clause-heads
returns-clause-heads g c = λ sg G A x h d. expansion_head sg x A G h d

pub returns-clause-within : goal.returns-clause-within
returns-clause-within g c = λ sg G A t d. reach_within sg d
