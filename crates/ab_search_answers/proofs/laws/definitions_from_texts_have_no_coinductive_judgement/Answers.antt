use Rattle.std.specs.Prelude.{[], ◌∷◌}
use Rattle.ab_formulas.specs.Declarations.{a_block}
use Rattle.ab_search_answers.proofs.TextClauses.{behind_none, definition_none}
use Rattle.ab_search_answers.proofs.laws.definitions_from_texts_have_no_coinductive_judgement.Goals as goal

pub returns : goal.returns
returns c = λ D b before all. behind_none D (a_block b ∷ []) before (definition_none b all)
