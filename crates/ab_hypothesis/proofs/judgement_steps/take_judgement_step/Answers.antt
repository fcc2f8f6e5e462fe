use Rattle.std.specs.Prelude.{Ok}
use Rattle.std.proofs.Common.{◌≡◌, List, ◌∙◌, ap, sym, subst}
use Rattle.ab_unify.specs.Problem.{cells_read}
use Rattle.ab_logic.specs.Worlds.{declarations_of}
use Rattle.ab_theory.specs.Derivations.{Debt}
use Rattle.ab_steps.specs.ab_kernel.specs.ab_rules.specs.RuleAnswers.{step_of}
use Rattle.ab_steps.specs.Progress.{FollowsBy}
use Rattle.ab_steps.specs.ab_kernel.specs.Layout.{goals_of}
use Rattle.ab_steps.proofs.Following.{some_goal, first_at, one_at_least}
use Rattle.ab_steps.proofs.Plain.{never_stuck}
use Rattle.ab_hypothesis.specs.JudgementSteps.{IsntTaken}
use Rattle.ab_hypothesis.proofs.JudgementSteps.{isnt_taken}
use Rattle.ab_hypothesis.proofs.judgement_steps.take_judgement_step.Goals as goal

pub attempt_solving-requires-clause-place : goal.attempt_solving-requires-clause-place
attempt_solving-requires-clause-place g c = some_goal _ c.requires.open

pub returns-in_err-attempt_solving-clause-follows : goal.returns-in_err-attempt_solving-clause-follows
returns-in_err-attempt_solving-clause-follows g c =
    subst (λ (ts : List Debt). FollowsBy ts c.args.world.now c.args.proof.now c.attempt_solving.new.world c.attempt_solving.new.proof) c.requires.owing c.attempt_solving.ensures.follows

pub returns-in-Taken-clause-follows : goal.returns-in-Taken-clause-follows
returns-in-Taken-clause-follows g c =
    subst (λ (ts : List Debt). FollowsBy ts c.args.world.now c.args.proof.now c.attempt_solving.new.world c.attempt_solving.new.proof) c.requires.owing c.attempt_solving.ensures.follows

pub returns-in-Taken-clause-took : goal.returns-in-Taken-clause-took
returns-in-Taken-clause-took g c before behind s at =
    let t = c.attempt_solving.ensures.took c.in-Taken.field-0 (c.in_ok-attempt_solving.was ∙ ap Ok c.in-Taken.is) before behind s at in
    (t.0, t.1.0, t.2)

pub returns-in-Failed-clause-follows : goal.returns-in-Failed-clause-follows
returns-in-Failed-clause-follows g c =
    subst (λ (ts : List Debt). FollowsBy ts c.args.world.now c.args.proof.now c.attempt_solving.new.world c.attempt_solving.new.proof) c.requires.owing c.attempt_solving.ensures.follows

pub returns-in-Failed-clause-refused : goal.returns-in-Failed-clause-refused
returns-in-Failed-clause-refused g c fault e =
    let w = c.args.world.now in
    let p = c.args.proof.now in
    let i = c.in-Failed.condition in
    let same : c.fault_at.result ≡ fault = cc in
    subst (IsntTaken w p (step_of w c.args.step)) (sym c.fault_at.ensures ∙ same)
    (isnt_taken w p (step_of w c.args.step) i (c.attempt_solving.ensures.failed i (c.in_ok-attempt_solving.was ∙ ap Ok c.in-Failed.is)))

pub unreachable-requires : goal.unreachable-requires
unreachable-requires g c =
    let w = c.args.world.now in
    let p = c.args.proof.now in
    let i = c.in-Stuck.field-0 in
    let one = one_at_least (goals_of w p) c.requires.open in
    never_stuck (declarations_of w) (cells_read w.types w.store) (step_of w c.args.step) one.0 i c.requires.plain
    (c.attempt_solving.ensures.stuck i (c.in_ok-attempt_solving.was ∙ ap Ok c.in-Stuck.is) _ one.1 one.0 (first_at w p one.0 one.1 one.2))
