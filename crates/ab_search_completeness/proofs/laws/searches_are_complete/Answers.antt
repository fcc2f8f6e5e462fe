use Rattle.ab_search_completeness.proofs.Complete.{none_guessed}
use Rattle.ab_search_completeness.proofs.laws.searches_are_complete.Goals as goal

pub returns : goal.returns
returns c = λ D depth s defs programs has is comes sees d. none_guessed D defs programs has depth s is comes sees d
