use Rattle.ab_term.proofs.Normalising.{plain_fits, normal_typed, normal_reached}
use Rattle.ab_term.proofs.normal_forms.normal_form_is_reached.Goals as goal

pub returns-clause-typed : goal.returns-clause-typed
returns-clause-typed g c = λ sg G A x t f. normal_typed sg x f

pub returns-clause-reached : goal.returns-clause-reached
returns-clause-reached g c = λ sg G A x t f. normal_reached sg x f

pub returns-clause-canonical : goal.returns-clause-canonical
returns-clause-canonical g c = λ sg G A x t d. plain_fits sg x d
