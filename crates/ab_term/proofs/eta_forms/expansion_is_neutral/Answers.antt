use Rattle.ab_term.specs.Terms.{no_terms}
use Rattle.ab_term.proofs.Expansions.{reduce-expansion_of, substitute-expansion}
use Rattle.ab_term.proofs.OwnExpansion.{image-own}
use Rattle.ab_term.proofs.eta_forms.expansion_is_neutral.Goals as goal

pub returns-clause-arguments : goal.returns-clause-arguments
returns-clause-arguments g c = λ sg G A h ts k ds. reduce-expansion_of sg _ A G h no_terms ts k ds

pub returns-clause-bound_name : goal.returns-clause-bound_name
returns-clause-bound_name g c = λ sg G A t d. substitute-expansion sg _ d

pub returns-clause-free_variable : goal.returns-clause-free_variable
returns-clause-free_variable g c = λ sg same x t e d. image-own sg _ same x t e d
