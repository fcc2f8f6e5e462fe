use Rattle.ab_search_clauses.proofs.Evidence.{is_by_clause, left_is}
use Rattle.ab_search_clauses.proofs.laws.clauses_of_answers_are_solved.Goals as goal

pub returns : goal.returns
returns k = λ D now g depth d c ys more q later fill defs flexible task is may there last solves. (
  is_by_clause D defs now flexible g task depth d is c there ys later fill last more q solves may,
  left_is D defs now flexible g task depth d is c there ys later fill last more q solves,
)
