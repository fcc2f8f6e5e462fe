use Rattle.std.proofs.Common.{◌-◌, arith}
use Rattle.ab_logic.proofs.Growing.{grows_on}
use Rattle.ab_rules.proofs.Making.{type_is_there, over_more}
use Rattle.ab_rules.proofs.rule_terms.type_over.Goals as goal

pub arrow_from-requires-clause-from : goal.arrow_from-requires-clause-from
arrow_from-requires-clause-from c =
    let within = c.loop-left.invariant.within in
    type_is_there _ _ _ c.loop-left.invariant.part (c.requires.names _ _ (omega arith))

pub loop-left-preserved : goal.loop-left-preserved
loop-left-preserved c =
    over_more _ _ _ _ _ c.loop-left.left (c.loop-left.left - 1) (record { number = 0; ty = record { 0 = 0 } }) _ _
    c.loop-left.invariant (omega arith) c.requires.names c.in_ok-over.ensures.grows c.in_ok-over.ensures.store c.in_ok-over.ensures.declared c.in_ok-over.ensures.part c.in_ok-over.ensures.held c.in_ok-over.ensures.reads

pub returns-in_err-over-clause-grows : goal.returns-in_err-over-clause-grows
returns-in_err-over-clause-grows c = grows_on _ _ _ c.loop-left.invariant.grows c.in_err-over.ensures.grows
