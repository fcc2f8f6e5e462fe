use Rattle.ab_search_answers.proofs.Rooted.{answer_layered}
use Rattle.ab_search_answers.proofs.laws.answers_are_proofs.Goals as goal

pub returns : goal.returns
returns c = λ D cells depth s ls last defs program has is are unmarked none l m. answer_layered D cells depth s is are unmarked defs program has none ls l last m
