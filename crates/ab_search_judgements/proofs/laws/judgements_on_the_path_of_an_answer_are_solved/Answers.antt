use Rattle.ab_search_judgements.proofs.RulePath.{terms, gives}
use Rattle.ab_search_judgements.proofs.laws.judgements_on_the_path_of_an_answer_are_solved.Goals as goal

pub returns : goal.returns
returns k = λ D now last g depth j c ys more q n program has flexible task is bare there solves later known. (
  terms D program has now last flexible g task depth j is bare c there ys more q n solves later known,
  gives D program has now last flexible g task depth j is bare c there ys more q n solves later known,
)
