use Rattle.ab_term.specs.Names.{moved_by}
use Rattle.ab_term.proofs.Translations.{translate_typed, typed_before, support-translate, translate-rename, variables-translate}
use Rattle.ab_term.proofs.translation_laws.translation_keeps_types_and_names.Goals as goal

pub returns-clause-types : goal.returns-clause-types
returns-clause-types g c = λ f h sg G A t d. translate_typed sg f h d

pub returns-clause-back : goal.returns-clause-back
returns-clause-back g c = λ f h sg G A t d. typed_before sg f h t d

pub returns-clause-names : goal.returns-clause-names
returns-clause-names g c = λ f h t. support-translate f h t

pub returns-clause-permutations : goal.returns-clause-permutations
returns-clause-permutations g c = λ f h ps t. translate-rename f h (moved_by ps) t

pub returns-clause-free_variables : goal.returns-clause-free_variables
returns-clause-free_variables g c = λ f h t. variables-translate f h t
