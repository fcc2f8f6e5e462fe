use Rattle.ab_theory.specs.Steps.{definition_left, equal_left}
use Rattle.ab_coverage.proofs.Premises.{definition_covers, equation_covers, node_rule}
use Rattle.ab_coverage.proofs.hypotheses.nodes_cover_hypotheses.Goals as goal

pub returns-clause-definitions : goal.returns-clause-definitions
returns-clause-definitions c = λ D definitions programs has d s H l F ps valid node is e q typed clean.
    definition_covers D s H F ps is e q typed clean definitions programs has l (node_rule D s (definition_left H l) ps d valid node)

pub returns-clause-equations : goal.returns-clause-equations
returns-clause-equations c = λ D d s H F ps valid node is e q typed clean. equation_covers D s H F ps is e q typed clean (node_rule D s (equal_left H) ps d valid node)
