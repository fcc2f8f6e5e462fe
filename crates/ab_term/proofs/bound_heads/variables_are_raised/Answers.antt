use Rattle.ab_term.proofs.Raising.{image-raised}
use Rattle.ab_term.proofs.Hinted.{given_typed, given-instances}
use Rattle.ab_term.proofs.bound_heads.variables_are_raised.Goals as goal

pub returns-clause-typed : goal.returns-clause-typed
returns-clause-typed g c = λ sg G A x y ns e. given_typed sg x G y ns A e

pub returns-clause-applied : goal.returns-clause-applied
returns-clause-applied g c = λ sg A x n ns. given-instances sg x n ns A

pub returns-clause-put_in : goal.returns-clause-put_in
returns-clause-put_in g c = λ sg A x y ns s u all e d v. image-raised sg x s all y ns A u e d v
