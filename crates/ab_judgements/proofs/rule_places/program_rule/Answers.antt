use Rattle.std.specs.Option.{option_map}
use Rattle.std.proofs.Common.{None, Some, sym, ◌∙◌, ap, subst}
use Rattle.ab_typing.specs.declared.definitions.ClauseTerm.{ClauseTerm}
use Rattle.ab_logic.specs.Worlds.{read, clause_read}
use Rattle.ab_theory.specs.SpecRules.{by_clause}
use Rattle.ab_judgements.specs.DemandReadings.{IsRuleFor}
use Rattle.ab_judgements.specs.RuleWalks.{clauses_of, clause_there}
use Rattle.ab_judgements.specs.declared.demands.Rule.TheVariants.{Clause}
use Rattle.ab_judgements.proofs.PlaceRules.{kept_clause, clause_fits}
use Rattle.ab_judgements.proofs.RuleSlots.{numbered_place, at_number}
use Rattle.ab_judgements.proofs.rule_places.program_rule.Goals as goal

pub returns-in_default-clause_at-clause-reads : goal.returns-in_default-clause_at-clause-reads
returns-in_default-clause_at-clause-reads c =
    let w = c.args.world.now in
    let j = c.args.judgement.now in
    let l = c.in-Some.ensures.lookup in
    at_number w (read w j.goal) (read w j.context) c.clause_places-places.result.now c.clause_places-places.ensures c.args.number c.in-Some.place.now c.if-number-places.false l.3.0 (l.3.1 0)
    None c.in_default-clause_at.ensures

pub returns-clause-reads : goal.returns-clause-reads
returns-clause-reads c =
    let w = c.args.world.now in
    let j = c.args.judgement.now in
    let l = c.in-Some.ensures.lookup in
    ap (λ (k : ClauseTerm). Some (by_clause (clause_read w k))) c.in_ok-copied.ensures
    ∙ at_number w (read w j.goal) (read w j.context) c.clause_places-places.result.now c.clause_places-places.ensures c.args.number c.in-Some.place.now c.if-number-places.false l.3.0 (l.3.1 0)
    (Some c.in-Some-clause_at.clause.now) c.in-Some-clause_at.ensures

pub returns-clause-fits : goal.returns-clause-fits
returns-clause-fits c =
    let w = c.args.world.now in
    let j = c.args.judgement.now in
    let clause = c.in-Some-clause_at.clause.now in
    let l = c.in-Some.ensures.lookup in
    subst (λ (k : ClauseTerm). IsRuleFor w j (Clause k)) (sym c.in_ok-copied.ensures)
    (clause_fits w j clause c.args.number (kept_clause w w.additions c.requires.world.additions c.in-Some.place.now clause (sym c.in-Some-clause_at.ensures))
    (numbered_place (clause_there w) c.clause_places-places.result.now (clauses_of w (read w j.goal)) c.clause_places-places.ensures c.args.number c.in-Some.place.now l.3.0 (l.3.1 0)
    ∙ ap (option_map (clause_read w)) (sym c.in-Some-clause_at.ensures)))
