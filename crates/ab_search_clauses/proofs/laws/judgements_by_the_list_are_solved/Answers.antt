use Rattle.ab_search_clauses.proofs.ByList.{list_evidence}
use Rattle.ab_search_clauses.proofs.laws.judgements_by_the_list_are_solved.Goals as goal

pub returns : goal.returns
returns k = λ D C j ys r n has formula is may there typed scoped some. list_evidence D has C formula j is may there ys r typed scoped some n
