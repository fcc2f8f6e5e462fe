use Rattle.std.proofs.Common.{refl}
use Rattle.ab_search_trees.specs.Outcomes.{outcome_of}
use Rattle.ab_search_trees.proofs.Some.{searched}
use Rattle.ab_answers.proofs.Places.{places_of, are_places}
use Rattle.ab_answers.proofs.command_laws.each_search_comes_to_an_outcome.Goals as goal

pub returns : goal.returns
returns c = λ D depth s definitions is.
    let ls = searched D definitions (places_of s) depth s is in
    (outcome_of ls.0, (places_of s, are_places s is.numbers_differ, ls.0, ls.1, refl))
