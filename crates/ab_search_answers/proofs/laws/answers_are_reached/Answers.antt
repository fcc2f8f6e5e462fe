use Rattle.ab_search_answers.proofs.Going.{reached}
use Rattle.ab_search_answers.proofs.laws.answers_are_reached.Goals as goal

pub returns : goal.returns
returns c = λ D now last gs ls l m. reached D l last m
