use Rattle.ab_infer.proofs.Normalising.{normal_form_typed, normal_form_past_hints}
use Rattle.ab_infer.proofs.reading_laws.normal_forms_are_canonical.Goals as goal

pub returns-clause-typed : goal.returns-clause-typed
returns-clause-typed c = λ sg G A t f. normal_form_typed sg f

pub returns-clause-past_hints : goal.returns-clause-past_hints
returns-clause-past_hints c = λ sg G A t f. normal_form_past_hints sg f
