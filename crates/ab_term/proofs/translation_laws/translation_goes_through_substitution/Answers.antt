use Rattle.ab_term.proofs.Translations.{translate-shift, translate-substitute, translate-instance, translate-instance_by_all, translate-expansion}
use Rattle.ab_term.proofs.translation_laws.translation_goes_through_substitution.Goals as goal

pub returns-clause-shifts : goal.returns-clause-shifts
returns-clause-shifts g c = λ f h k t. translate-shift f h t k

pub returns-clause-substitutions : goal.returns-clause-substitutions
returns-clause-substitutions g c = λ f h A k t u. translate-substitute f h A u k t

pub returns-clause-instances : goal.returns-clause-instances
returns-clause-instances g c = λ f h t u. translate-instance f h t u

pub returns-clause-several : goal.returns-clause-several
returns-clause-several g c = λ f h t us. translate-instance_by_all f h us t

pub returns-clause-expansions : goal.returns-clause-expansions
returns-clause-expansions g c = λ f h A x e. translate-expansion f h x A e
