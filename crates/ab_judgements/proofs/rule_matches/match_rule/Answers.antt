use Rattle.ab_norm.proofs.Frame.{if_ok}
use Rattle.ab_unify.proofs.Growth.{grows_on}
use Rattle.ab_judgements.specs.DemandReadings.{rule_read}
use Rattle.ab_judgement_forms.specs.JudgementReadings.{judgement_read}
use Rattle.ab_judgements.specs.RuleSteps.{demand_above, as_demand}
use Rattle.ab_judgements.proofs.DemandCases.{own_last}
use Rattle.ab_judgements.proofs.RuleWays.{matched_so}
use Rattle.ab_judgements.proofs.rule_matches.match_rule.Goals as goal

pub solve_match-requires-clause-own : goal.solve_match-requires-clause-own
solve_match-requires-clause-own g c =
    let w = c.args.world.now in
    own_last w c.unfolding_by.new.world (demand_above w (judgement_read w c.args.ruled.now.judgement) (rule_read w c.args.rule.now)) (as_demand c.in_ok-made.made) c.in_ok-made.ensures.made c.unfolding_by.ensures.later.grows.world.unbound

pub returns-in_err-made-clause-added : goal.returns-in_err-made-clause-added
returns-in_err-made-clause-added g c = record { grown = c.unfolding_by.ensures.later.grown; additions = c.unfolding_by.ensures.later.additions }

pub returns-clause-added : goal.returns-clause-added
returns-clause-added g c =
    let w = c.args.world.now in
    let v = c.unfolding_by.new.world in
    record {
      grown = grows_on w.types v.types c.solve_match.new.types w.store v.store c.solve_match.new.store c.unfolding_by.ensures.later.grown c.solve_match.ensures.grows;
      additions = c.unfolding_by.ensures.later.additions;
    }

pub returns-clause-matched : goal.returns-clause-matched
returns-clause-matched g c =
    let w = c.args.world.now in
    if_ok c.solve_match.result
    (λ m t s. matched_so w c.unfolding_by.new.world (judgement_read w c.args.ruled.now.judgement) (rule_read w c.args.rule.now) c.in_ok-made.made c.in_ok-made.ensures.made c.unfolding_by.ensures.later.grows.world.unbound s m t)
    c.solve_match.ensures.matched
