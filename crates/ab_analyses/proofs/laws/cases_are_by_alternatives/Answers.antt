use Rattle.ab_analyses.proofs.CasesBy.{cases_by_each, ways_by_each}
use Rattle.ab_analyses.proofs.laws.cases_are_by_alternatives.Goals as goal

pub returns-clause-cases : goal.returns-clause-cases
returns-clause-cases c = cases_by_each

pub returns-clause-ways : goal.returns-clause-ways
returns-clause-ways c = ways_by_each
