use Rattle.ab_search_answers.proofs.Texts.{means_none}
use Rattle.ab_search_answers.proofs.laws.texts_mean_no_coinductive_judgement.Goals as goal

pub returns : goal.returns
returns c = λ D scope e A F m. means_none D scope e A F m
