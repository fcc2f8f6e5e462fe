use Rattle.std.proofs.Common.{[]}
use Rattle.ab_meaning.specs.Normal.{normal_form}
use Rattle.ab_infer.specs.Heads.{IsOrdinary, IsFixed}
use Rattle.ab_infer.proofs.Normalising.{normal_form_typed}
use Rattle.ab_infer.proofs.HeadsKept.{heads_kept}
use Rattle.ab_infer.proofs.CanonicalFormulas.{stands}
use Rattle.ab_infer.proofs.ReadHeads.{no_variables, no_names}
use Rattle.ab_infer.proofs.reading_laws.normal_forms_keep_heads.Goals as goal

pub returns-clause-formula : goal.returns-clause-formula
returns-clause-formula c = λ sg t f h.
    let d = normal_form_typed sg f in
    record { typed = d; stands = stands sg (normal_form sg [] t) [] tt (heads_kept IsOrdinary (λ i. tt) sg [] t h) d }

pub returns-clause-variables : goal.returns-clause-variables
returns-clause-variables c = λ sg G t h. no_variables (normal_form sg G t) (heads_kept IsFixed (λ i. tt) sg G t h)

pub returns-clause-names : goal.returns-clause-names
returns-clause-names c = λ sg G t h. no_names (normal_form sg G t) (heads_kept IsFixed (λ i. tt) sg G t h)
