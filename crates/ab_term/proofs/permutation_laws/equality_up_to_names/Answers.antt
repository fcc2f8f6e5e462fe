use Rattle.ab_term.proofs.UpToNames.{up_to_names-itself, up_to_names-symmetric, up_to_names-transitive}
use Rattle.ab_term.proofs.permutation_laws.equality_up_to_names.Goals as goal

pub returns-clause-reflexive : goal.returns-clause-reflexive
returns-clause-reflexive g c = λ t. up_to_names-itself t

pub returns-clause-symmetric : goal.returns-clause-symmetric
returns-clause-symmetric g c = λ t u e. up_to_names-symmetric t u e

pub returns-clause-transitive : goal.returns-clause-transitive
returns-clause-transitive g c = λ t u v e f. up_to_names-transitive t u v e f
