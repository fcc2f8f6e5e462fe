use Rattle.ab_unifiers.proofs.Prefixed.{kept_clause, head_whole}
use Rattle.ab_unifiers.proofs.case_laws.kept_clauses_are_clauses.Goals as goal

pub returns-clause-well : goal.returns-clause-well
returns-clause-well g c = λ sg x cells ys head body kept. kept_clause sg x cells ys head body kept

pub returns-clause-whole : goal.returns-clause-whole
returns-clause-whole g c = λ sg x cells ys head body kept. head_whole sg x cells ys head body kept
