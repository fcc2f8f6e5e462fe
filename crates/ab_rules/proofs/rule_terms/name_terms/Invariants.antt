use Rattle.ab_rules.proofs.Making.{Named}
use Rattle.ab_rules.proofs.rule_terms.name_terms.Given as goal

abbrev pub invariant-loop-name : goal.invariant-loop-name
invariant-loop-name l = Named l.fn.world l.world l.names l.name-index l.terms.items
