use Rattle.std.proofs.Common.{codes}
use Rattle.ab_norm.proofs.Frame.{if_ok}
use Rattle.ab_patterns.specs.EquationReadings.{equation_of}
use Rattle.ab_patterns.specs.ab_unifiers.specs.Unification.{rule}
use Rattle.ab_unify.specs.Problem.{cells_read, variables_read}
use Rattle.ab_unify.specs.Outcome.{equation_read}
use Rattle.ab_unify.proofs.Growth.{grows_on, grows_terms}
use Rattle.ab_unify.proofs.RuledEquations.{tells_before, same_rule}
use Rattle.ab_unify.proofs.all_rules.apply_rule.Goals as goal

pub returns-in_err-plain-clause-grows : goal.returns-in_err-plain-clause-grows
returns-in_err-plain-clause-grows g c = grows_terms c.args.types.now c.args.store.now c.resolved_equation.new.store c.in_err-plain.ensures.adds

pub returns-clause-grows : goal.returns-clause-grows
returns-clause-grows g c =
    let types = c.args.types.now in
    let s0 = c.args.store.now in
    let s1 = c.resolved_equation.new.store in
    grows_on types types c.apply_to_resolved.new.types s0 s1 c.apply_to_resolved.new.store (grows_terms types s0 s1 c.in_ok-plain.ensures.adds) c.apply_to_resolved.ensures.grows

pub returns-clause-tells : goal.returns-clause-tells
returns-clause-tells g c =
    let types = c.args.types.now in
    let s0 = c.args.store.now in
    let s1 = c.resolved_equation.new.store in
    let F = c.args.flexible.now.items in
    let here = equation_of types s1 c.in_ok-plain.plain in
    let there = equation_read types s0 c.args.equation in
    let adds = c.in_ok-plain.ensures.adds in
    if_ok c.apply_to_resolved.result (λ r t.
    tells_before types s0 s1 F c.requires.store c.requires.free adds c.apply_to_resolved.new.types c.apply_to_resolved.new.store c.apply_to_resolved.new.flexible.items r
    (rule (codes "x") (cells_read types s1) (variables_read types s1 F) here) (rule (codes "x") (cells_read types s0) (variables_read types s0 F) there)
    (same_rule types s0 s1 F c.requires.store c.requires.free adds here there c.in_ok-plain.ensures.reads) t) c.apply_to_resolved.ensures.tells
