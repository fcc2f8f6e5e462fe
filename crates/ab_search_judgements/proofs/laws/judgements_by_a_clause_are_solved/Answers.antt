use Rattle.ab_search_judgements.proofs.ByClause.{clause_terms, clause_evidence}
use Rattle.ab_search_judgements.proofs.laws.judgements_by_a_clause_are_solved.Goals as goal

pub returns : goal.returns
returns k = λ D now g depth j c ys more q later fill program has flexible task is bare there at solves. (
  clause_terms D program has now flexible g task depth j is bare c there ys later fill at more q solves,
  clause_evidence D program has now flexible g task depth j is bare c there ys later fill at more q solves,
)
