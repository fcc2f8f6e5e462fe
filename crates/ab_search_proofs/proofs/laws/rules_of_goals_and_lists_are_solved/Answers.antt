use Rattle.ab_search_proofs.proofs.Opening.{opening, listing}
use Rattle.ab_search_proofs.proofs.laws.rules_of_goals_and_lists_are_solved.Goals as goal

pub returns-clause-opening : goal.returns-clause-opening
returns-clause-opening c = λ D has ys C formula known j is may unfocused k. opening D has ys C formula known j is may unfocused k

pub returns-clause-listing : goal.returns-clause-listing
returns-clause-listing c = λ D has ys C formula known j is may unfocused k n. listing D has ys C formula known j is may unfocused k n
