use Rattle.std.proofs.Common.{◌∙◌, ap}
use Rattle.ab_term.specs.Substitution.{substitute}
use Rattle.ab_term.specs.Translation.{forget}
use Rattle.ab_term.specs.Abstraction.{close}
use Rattle.ab_term.proofs.Contexts.{inserted}
use Rattle.ab_term.proofs.Closing.{close_typed, forget-close, substitute-close, substitute-close_hints}
use Rattle.ab_term.proofs.Recognising.{forget-expansion}
use Rattle.ab_term.proofs.Translations.{translate-substitute, translate_typed}
use Rattle.ab_term.proofs.bound_heads.closing_is_undone.Goals as goal

pub returns-clause-typed : goal.returns-clause-typed
returns-clause-typed g c = λ sg Ds G A B h t e d. close_typed sg h (inserted Ds A G) e d

pub returns-clause-undone : goal.returns-clause-undone
returns-clause-undone g c = λ sg G A B k x h t e d.
    translate-substitute (λ v. v) (λ y. tt) A _ k (close k h t)
    ∙ ap (λ u. substitute A u k (forget (close k h t))) (forget-expansion x A h)
    ∙ ap (substitute A _ k) (forget-close k h t)
    ∙ substitute-close sg k h e (translate_typed sg (λ v. v) (λ y. tt) d)

pub returns-clause-with_hints : goal.returns-clause-with_hints
returns-clause-with_hints g c = λ sg G A B k x h t f e d. substitute-close_hints sg x k h f e d
