use Rattle.ab_rules.proofs.Making.{Over}
use Rattle.ab_rules.proofs.rule_terms.type_over.Given as goal

abbrev pub invariant-loop-left : goal.invariant-loop-left
invariant-loop-left l = Over l.fn.world l.world l.names l.fn.ty l.left l.over

abbrev pub decreases-loop-left : goal.decreases-loop-left
decreases-loop-left l = l.left
