use Rattle.ab_search_answers.proofs.Queries.{query_answer}
use Rattle.ab_search_answers.proofs.laws.answers_of_queries_are_proofs.Goals as goal

pub returns : goal.returns
returns c = λ D cells depth s E ls last defs program has is are unmarked none given named asks l m. (query_answer D defs program has none cells depth s is are unmarked given named E asks ls l last m).proved
