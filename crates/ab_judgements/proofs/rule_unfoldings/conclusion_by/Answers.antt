use Rattle.std.proofs.Common.{length, codes, subst}
use Rattle.ab_unifiers.specs.Unification.{apart, stuck, Solves}
use Rattle.ab_unify.proofs.Growth.{grows_on}
use Rattle.ab_formulas.specs.BodyMarks.{mark_above}
use Rattle.ab_judgements.specs.DemandReadings.{rule_read}
use Rattle.ab_judgement_forms.specs.JudgementReadings.{judgement_read}
use Rattle.ab_judgements.specs.RuleSteps.{demand_above, as_demand}
use Rattle.ab_judgements.proofs.DemandCases.{own_last}
use Rattle.ab_judgements.proofs.DemandFormulas.{body_formula}
use Rattle.ab_judgements.proofs.RuleWays.{body_term, problem_so, conclusion_so}
use Rattle.ab_judgements.proofs.rule_unfoldings.conclusion_by.Goals as goal

pub solve_unfolding-requires-clause-own : goal.solve_unfolding-requires-clause-own
solve_unfolding-requires-clause-own g c =
    let w = c.args.world.now in
    own_last w c.unfolding_by.new.world (demand_above w (judgement_read w c.args.ruled.now.judgement) (rule_read w c.args.rule.now)) (as_demand c.in_ok-made.made) c.in_ok-made.ensures.made c.unfolding_by.ensures.later.grows.world.unbound

pub solve_unfolding-requires-clause-body : goal.solve_unfolding-requires-clause-body
solve_unfolding-requires-clause-body g c =
    let w = c.args.world.now in
    let j = judgement_read w c.args.ruled.now.judgement in
    body_term w c.unfolding_by.new.world j (rule_read w c.args.rule.now) c.in_ok-made.made c.in_ok-made.ensures.made c.unfolding_by.ensures.later.grows.world c.unfolding_by.ensures.later.declared
    (body_formula w c.requires.ruled.world c.args.ruled.now.judgement c.requires.ruled.typed c.args.rule.now c.requires.rule (length w.store.cells) (mark_above j.sign))

pub returns-in_err-made-clause-added : goal.returns-in_err-made-clause-added
returns-in_err-made-clause-added g c = record { grown = c.unfolding_by.ensures.later.grown; additions = c.unfolding_by.ensures.later.additions }

pub returns-clause-added : goal.returns-clause-added
returns-clause-added g c =
    let w = c.args.world.now in
    let v = c.unfolding_by.new.world in
    record {
      grown = grows_on w.types v.types c.solve_unfolding.new.types w.store v.store c.solve_unfolding.new.store c.unfolding_by.ensures.later.grown c.solve_unfolding.ensures.grows;
      additions = c.unfolding_by.ensures.later.additions;
    }

pub returns-clause-formula : goal.returns-clause-formula
returns-clause-formula g c = λ s r e.
    let w = c.args.world.now in
    let v = c.unfolding_by.new.world in
    conclusion_so w v (judgement_read w c.args.ruled.now.judgement) (rule_read w c.args.rule.now) c.in_ok-made.made c.in_ok-made.ensures.made c.unfolding_by.ensures.later.grows.world.unbound s c.solve_unfolding.new.types c.solve_unfolding.new.store r (c.solve_unfolding.ensures.formula r e)

pub returns-clause-apart : goal.returns-clause-apart
returns-clause-apart g c = λ s e.
    let w = c.args.world.now in
    let v = c.unfolding_by.new.world in
    subst (λ p. Solves (codes "x") p apart) (problem_so w v (judgement_read w c.args.ruled.now.judgement) (rule_read w c.args.rule.now) c.in_ok-made.made c.in_ok-made.ensures.made c.unfolding_by.ensures.later.grows.world.unbound s) (c.solve_unfolding.ensures.apart e)

pub returns-clause-stuck : goal.returns-clause-stuck
returns-clause-stuck g c = λ s i e.
    let w = c.args.world.now in
    let v = c.unfolding_by.new.world in
    subst (λ p. Solves (codes "x") p (stuck i)) (problem_so w v (judgement_read w c.args.ruled.now.judgement) (rule_read w c.args.rule.now) c.in_ok-made.made c.in_ok-made.ensures.made c.unfolding_by.ensures.later.grows.world.unbound s) (c.solve_unfolding.ensures.stuck i e)
