use Rattle.std.proofs.Common.{map, ◌∙◌, ap, arith}
use Rattle.std.proofs.lemmas.List.{take_all}
use Rattle.ab_norm.specs.Nominals.{nominal_of}
use Rattle.ab_theory.specs.Rules.{name_term}
use Rattle.ab_rules.proofs.Adding.{adds_on}
use Rattle.ab_rules.proofs.Making.{named_more}
use Rattle.ab_rules.proofs.rule_terms.name_terms.Goals as goal

pub returns-in_err-push-clause-adds : goal.returns-in_err-push-clause-adds
returns-in_err-push-clause-adds c = adds_on _ _ _ c.loop-name.invariant.adds c.name_term.ensures.adds

pub loop-name-preserved : goal.loop-name-preserved
loop-name-preserved c =
    named_more _ _ _ _ _ _ _ _ _ c.loop-name.invariant c.loop-name-test.true c.name_term.ensures.adds c.in_ok-name_term.ensures.held c.in_ok-name_term.ensures.reads c.in_ok-push.ensures.items

pub returns-in_err-name_term-clause-adds : goal.returns-in_err-name_term-clause-adds
returns-in_err-name_term-clause-adds c = adds_on _ _ _ c.loop-name.invariant.adds c.name_term.ensures.adds

pub returns-clause-reads : goal.returns-clause-reads
returns-clause-reads c =
    let done = c.loop-name-test.false in
    c.loop-name.invariant.reads ∙ ap (λ ns. map name_term (map (nominal_of c.args.world.now.types) ns)) (take_all c.loop-name.name-index c.args.names.now (omega arith))
