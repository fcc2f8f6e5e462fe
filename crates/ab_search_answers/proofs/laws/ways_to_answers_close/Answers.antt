use Rattle.ab_search_answers.proofs.Rooted.{way_closes}
use Rattle.ab_search_answers.proofs.laws.ways_to_answers_close.Goals as goal

pub returns : goal.returns
returns c = λ D cells depth s last n es defs program has is are unmarked none l. way_closes D cells depth s is are unmarked defs program has none last n es l
