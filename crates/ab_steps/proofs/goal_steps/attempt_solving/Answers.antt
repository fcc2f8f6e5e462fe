use Rattle.std.specs.Prelude.{Err}
use Rattle.std.proofs.Common.{◌≡◌, refl, ◌∙◌, ap, subst}
use Rattle.ab_theory.specs.Derivations.{debts_of}
use Rattle.ab_kernel.specs.ab_rules.specs.RuleAnswers.{step_of}
use Rattle.ab_steps.specs.Progress.{TookInto, FailsBy, StuckAt}
use Rattle.ab_steps.proofs.Following.{by_step, by_same, owes_step, as_before, took_into, failed_by, sticks_there}
use Rattle.ab_steps.proofs.goal_steps.attempt_solving.Goals as goal

pub returns-in-Ok-clause-follows : goal.returns-in-Ok-clause-follows
returns-in-Ok-clause-follows g c =
    by_step c.args.world.now c.refine.new.world c.args.proof.now c.refine.new.self c.args.place _ (step_of c.args.world.now c.args.step)
    c.refine.ensures.grows c.refine.ensures.declared c.refine.ensures.proof c.in-Ok.ensures.step c.in-Ok.ensures.layout

pub returns-in-Ok-clause-owes : goal.returns-in-Ok-clause-owes
returns-in-Ok-clause-owes g c n e =
    owes_step c.args.world.now c.refine.new.world c.args.proof.now c.refine.new.self c.args.place _ (step_of c.args.world.now c.args.step) c.in-Ok.ensures.step

pub returns-in-Ok-clause-took : goal.returns-in-Ok-clause-took
returns-in-Ok-clause-took g c n e =
    let count = c.in-Ok.count in
    let same : count ≡ n = cc in
    subst (TookInto c.args.world.now c.args.proof.now c.refine.new.world c.refine.new.self c.args.place (step_of c.args.world.now c.args.step)) same
    (took_into c.args.world.now c.refine.new.world c.args.proof.now c.refine.new.self c.args.place count (step_of c.args.world.now c.args.step) c.in-Ok.ensures.step)

pub returns-in-Err-RuleFails-clause-follows : goal.returns-in-Err-RuleFails-clause-follows
returns-in-Err-RuleFails-clause-follows g c =
    by_same (debts_of (step_of c.args.world.now c.args.step)) c.args.world.now c.refine.new.world c.args.proof.now c.refine.new.self c.refine.ensures.grows c.refine.ensures.declared c.requires.proof c.refine.ensures.proof c.in-Err-RuleFails.ensures.err

pub returns-in-Err-RuleFails-clause-failed : goal.returns-in-Err-RuleFails-clause-failed
returns-in-Err-RuleFails-clause-failed g c i e =
    let j = c.in-Err-RuleFails.condition in
    let same : j ≡ i = cc in
    subst (FailsBy c.args.world.now c.args.proof.now c.args.place (step_of c.args.world.now c.args.step)) same
    (failed_by c.args.world.now c.args.proof.now c.args.place j (step_of c.args.world.now c.args.step)
    (c.refine.ensures.refused j (c.in-Err-RuleFails.is ∙ ap Err c.in-Err-RuleFails.field-0-is)))

pub returns-in-Err-RuleFails-clause-unchanged : goal.returns-in-Err-RuleFails-clause-unchanged
returns-in-Err-RuleFails-clause-unchanged g c other =
    as_before c.args.world.now c.refine.new.world c.args.proof.now c.refine.new.self c.refine.ensures.grows c.requires.proof c.in-Err-RuleFails.ensures.err

pub returns-in-Err-NotPattern-clause-follows : goal.returns-in-Err-NotPattern-clause-follows
returns-in-Err-NotPattern-clause-follows g c =
    by_same (debts_of (step_of c.args.world.now c.args.step)) c.args.world.now c.refine.new.world c.args.proof.now c.refine.new.self c.refine.ensures.grows c.refine.ensures.declared c.requires.proof c.refine.ensures.proof c.in-Err-NotPattern.ensures.err

pub returns-in-Err-NotPattern-clause-stuck : goal.returns-in-Err-NotPattern-clause-stuck
returns-in-Err-NotPattern-clause-stuck g c i e =
    let j = c.in-Err-NotPattern.equation in
    let same : j ≡ i = cc in
    subst (StuckAt c.args.world.now c.args.proof.now c.args.place (step_of c.args.world.now c.args.step)) same
    (sticks_there c.args.world.now c.args.proof.now c.args.place j (step_of c.args.world.now c.args.step)
    (c.refine.ensures.stuck j (c.in-Err-NotPattern.is ∙ ap Err c.in-Err-NotPattern.field-0-is)))

pub returns-in-Err-NotPattern-clause-unchanged : goal.returns-in-Err-NotPattern-clause-unchanged
returns-in-Err-NotPattern-clause-unchanged g c other =
    as_before c.args.world.now c.refine.new.world c.args.proof.now c.refine.new.self c.refine.ensures.grows c.requires.proof c.in-Err-NotPattern.ensures.err

pub returns-in-Err-Memory-clause-follows : goal.returns-in-Err-Memory-clause-follows
returns-in-Err-Memory-clause-follows g c =
    by_same (debts_of (step_of c.args.world.now c.args.step)) c.args.world.now c.refine.new.world c.args.proof.now c.refine.new.self c.refine.ensures.grows c.refine.ensures.declared c.requires.proof c.refine.ensures.proof c.in-Err-Memory.ensures.err

pub returns-in-Err-Memory-clause-unchanged : goal.returns-in-Err-Memory-clause-unchanged
returns-in-Err-Memory-clause-unchanged g c other =
    as_before c.args.world.now c.refine.new.world c.args.proof.now c.refine.new.self c.refine.ensures.grows c.requires.proof c.in-Err-Memory.ensures.err

pub returns-in-Ok-clause-unchanged : goal.returns-in-Ok-clause-unchanged
returns-in-Ok-clause-unchanged g c other = absurd (other _ refl)

pub returns-in-Ok-clause-kept : goal.returns-in-Ok-clause-kept
returns-in-Ok-clause-kept g c other = absurd (other _ refl)
