use Rattle.ab_store.proofs.Growing.{extended_itself, extended_on, term_grown}
use Rattle.ab_store.proofs.laws.growth_is_an_order.Goals as goal

pub returns-clause-reflexive : goal.returns-clause-reflexive
returns-clause-reflexive c = extended_itself

pub returns-clause-transitive : goal.returns-clause-transitive
returns-clause-transitive c = extended_on

pub returns-clause-terms : goal.returns-clause-terms
returns-clause-terms c = term_grown
