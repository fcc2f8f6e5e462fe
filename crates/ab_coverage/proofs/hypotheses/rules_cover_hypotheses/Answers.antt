use Rattle.ab_coverage.proofs.Premises.{definition_covers, equation_covers}
use Rattle.ab_coverage.proofs.hypotheses.rules_cover_hypotheses.Goals as goal

pub returns-clause-definitions : goal.returns-clause-definitions
returns-clause-definitions c = λ D definitions programs has s H l F ps is e rule q typed clean. definition_covers D s H F ps is e q typed clean definitions programs has l rule

pub returns-clause-equations : goal.returns-clause-equations
returns-clause-equations c = λ D s H F ps is e rule q typed clean. equation_covers D s H F ps is e q typed clean rule
