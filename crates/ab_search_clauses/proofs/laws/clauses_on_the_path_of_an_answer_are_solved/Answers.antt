use Rattle.ab_search_clauses.proofs.OnPath.{gives, leaves}
use Rattle.ab_search_clauses.proofs.laws.clauses_on_the_path_of_an_answer_are_solved.Goals as goal

pub returns : goal.returns
returns k = λ D now last g depth d c ys more q n defs flexible task branch is may there solves later held known. (
  gives D defs now last g depth d c ys more q n flexible task branch is there solves later held known may,
  leaves D defs now last g depth d c ys more q n flexible task branch is there solves later held known,
)
