use Rattle.ab_rules.proofs.Chosen.{Seeks, at_least}
use Rattle.ab_rules.proofs.nabla_constants.least_absent.Given as goal

abbrev pub invariant-loop-number : goal.invariant-loop-number
invariant-loop-number l = Seeks l.numbers l.number

abbrev pub decreases-loop-number : goal.decreases-loop-number
decreases-loop-number l = at_least l.number l.numbers
