use Rattle.std.specs.Option.{option_map}
use Rattle.std.proofs.Common.{◌≡◌, [], ◌∷◌, Ok, sym, ◌∙◌, ap, subst}
use Rattle.ab_logic.specs.SequentReadings.{sequent_of}
use Rattle.ab_logic.specs.declared.world.World.{World}
use Rattle.ab_theory.specs.JudgementCases.{judgement_case}
use Rattle.ab_theory.specs.Splits.{CaseOver}
use Rattle.ab_alternatives.specs.CaseSteps.{ArePassed, AreStopped}
use Rattle.ab_alternatives.specs.ab_equations.specs.declared.cases.CaseSolution.TheVariants.{Stuck}
use Rattle.ab_alternatives.proofs.Passed.{passed_never, passed_goal, stopped_here}
use Rattle.ab_judgements.specs.DemandReadings.{rule_read}
use Rattle.ab_judgement_forms.specs.JudgementReadings.{judgement_read}
use Rattle.ab_judgements.specs.RuleSteps.{cases_at}
use Rattle.ab_judgements.specs.RuleWalks.{slots}
use Rattle.ab_judgements.proofs.CutWorlds.{cut_later, cut_cells}
use Rattle.ab_judgements.proofs.rule_cases.try_place.Goals as goal

pub returns-in-Unified-clause-passed : goal.returns-in-Unified-clause-passed
returns-in-Unified-clause-passed g c = λ e.
    let w = c.args.world.now in
    let S = slots w c.args.ruled.now.judgement c.args.ruled.now.source in
    let here = sym c.in_ok-rule.ensures.reads ∙ ap (option_map (rule_read w)) c.in-Some.is in
    let the_case : CaseOver = judgement_case (sequent_of w c.args.goal.now) (sequent_of w c.args.rest.now) c.args.name.now (judgement_read w c.args.ruled.now.judgement) (rule_read w c.in-Some.rule) in
    let v = c.solve_rule.new.world in
    subst (λ r. ArePassed w c.args.goals.now.items (cases_at w c.args.ruled.now c.args.goal.now c.args.rest.now c.args.name.now (r ∷ [])) v c.push.new.self.items) (sym here)
    (passed_goal w v c.solve_rule.ensures.later c.args.goals.now.items c.push.new.self.items c.in-Unified.premise c.in_ok-push-in-Unified.ensures.items c.requires.goals
    (c.in_ok-premise.ensures.held c.in-Unified.premise (ap (λ q. Ok q) c.in-Unified.is)) the_case
    (c.in_ok-premise.ensures.unified c.in-Unified.premise (ap (λ q. Ok q) c.in-Unified.is)))

pub returns-in-Apart-clause-passed : goal.returns-in-Apart-clause-passed
returns-in-Apart-clause-passed g c = λ e.
    let w = c.args.world.now in
    let S = slots w c.args.ruled.now.judgement c.args.ruled.now.source in
    let here = sym c.in_ok-rule.ensures.reads ∙ ap (option_map (rule_read w)) c.in-Some.is in
    let the_case : CaseOver = judgement_case (sequent_of w c.args.goal.now) (sequent_of w c.args.rest.now) c.args.name.now (judgement_read w c.args.ruled.now.judgement) (rule_read w c.in-Some.rule) in
    let v : World = record { types = c.solve_rule.new.world.types; store = c.cut_to.new.self; additions = c.solve_rule.new.world.additions } in
    subst (λ r. ArePassed w c.args.goals.now.items (cases_at w c.args.ruled.now c.args.goal.now c.args.rest.now c.args.name.now (r ∷ [])) v c.args.goals.now.items) (sym here)
    (passed_never w v (cut_later c.args.world.now c.solve_rule.new.world c.requires.ready.ruled.world c.solve_rule.ensures.later.additions c.solve_rule.ensures.later.grown c.mark-mark.result c.mark-mark.ensures.has c.cut_to.new.self c.mark-mark.ensures.bindings c.mark-mark.ensures.nodes c.mark-mark.ensures.cells c.mark-mark.ensures.typed c.cut_to.ensures.bindings c.cut_to.ensures.nodes c.cut_to.ensures.cells c.cut_to.ensures.typed c.cut_to.ensures.marks) c.args.goals.now.items c.requires.goals the_case
    (c.in_ok-premise.ensures.apart (ap (λ q. Ok q) c.in-Apart.is))
    (cut_cells c.args.world.now c.solve_rule.new.world c.requires.ready.ruled.world c.solve_rule.ensures.later.additions c.solve_rule.ensures.later.grown c.mark-mark.result c.mark-mark.ensures.has c.cut_to.new.self c.mark-mark.ensures.bindings c.mark-mark.ensures.nodes c.mark-mark.ensures.cells c.mark-mark.ensures.typed c.cut_to.ensures.bindings c.cut_to.ensures.nodes c.cut_to.ensures.cells c.cut_to.ensures.typed c.cut_to.ensures.marks))

pub returns-in-Apart-clause-later : goal.returns-in-Apart-clause-later
returns-in-Apart-clause-later g c = cut_later c.args.world.now c.solve_rule.new.world c.requires.ready.ruled.world c.solve_rule.ensures.later.additions c.solve_rule.ensures.later.grown c.mark-mark.result c.mark-mark.ensures.has c.cut_to.new.self c.mark-mark.ensures.bindings c.mark-mark.ensures.nodes c.mark-mark.ensures.cells c.mark-mark.ensures.typed c.cut_to.ensures.bindings c.cut_to.ensures.nodes c.cut_to.ensures.cells c.cut_to.ensures.typed c.cut_to.ensures.marks

pub returns-clause-stopped : goal.returns-clause-stopped
returns-clause-stopped g c = λ i e.
    let w = c.args.world.now in
    let S = slots w c.args.ruled.now.judgement c.args.ruled.now.source in
    let here = sym c.in_ok-rule.ensures.reads ∙ ap (option_map (rule_read w)) c.in-Some.is in
    let the_case : CaseOver = judgement_case (sequent_of w c.args.goal.now) (sequent_of w c.args.rest.now) c.args.name.now (judgement_read w c.args.ruled.now.judgement) (rule_read w c.in-Some.rule) in
    let place : c.in-Stuck.equation ≡ i = cc in
    subst (λ r. AreStopped w (cases_at w c.args.ruled.now c.args.goal.now c.args.rest.now c.args.name.now (r ∷ [])) i) (sym here)
    (stopped_here w the_case i (c.in_ok-premise.ensures.stuck i (ap (λ q. Ok q) c.in-Stuck.is ∙ ap (λ n. Ok (Stuck n)) place)))
