use Rattle.std.specs.Prelude.{Err}
use Rattle.std.proofs.Common.{◌∙◌, ap}
use Rattle.ab_theory.specs.Derivations.{debts_of}
use Rattle.ab_kernel.specs.ab_rules.specs.RuleAnswers.{step_of}
use Rattle.ab_unify.specs.Problem.{cells_read}
use Rattle.ab_logic.specs.Worlds.{declarations_of}
use Rattle.ab_steps.proofs.Plain.{never_stuck}
use Rattle.ab_steps.proofs.Following.{by_step, by_same, owes_step, as_before, took, failed}
use Rattle.ab_steps.proofs.goal_steps.attempt.Goals as goal

pub returns-in-Ok-clause-follows : goal.returns-in-Ok-clause-follows
returns-in-Ok-clause-follows g c =
    by_step c.args.world.now c.refine.new.world c.args.proof.now c.refine.new.self c.args.place _ (step_of c.args.world.now c.args.step)
    c.refine.ensures.grows c.refine.ensures.declared c.refine.ensures.proof c.in-Ok.ensures.step c.in-Ok.ensures.layout

pub returns-in-Ok-clause-owes : goal.returns-in-Ok-clause-owes
returns-in-Ok-clause-owes g c holds =
    owes_step c.args.world.now c.refine.new.world c.args.proof.now c.refine.new.self c.args.place _ (step_of c.args.world.now c.args.step) c.in-Ok.ensures.step

pub returns-in-Ok-clause-took : goal.returns-in-Ok-clause-took
returns-in-Ok-clause-took g c holds =
    took c.args.world.now c.refine.new.world c.args.proof.now c.refine.new.self c.args.place _ (step_of c.args.world.now c.args.step) c.in-Ok.ensures.step

pub returns-in-Err-RuleFails-clause-follows : goal.returns-in-Err-RuleFails-clause-follows
returns-in-Err-RuleFails-clause-follows g c =
    by_same (debts_of (step_of c.args.world.now c.args.step)) c.args.world.now c.refine.new.world c.args.proof.now c.refine.new.self c.refine.ensures.grows c.refine.ensures.declared c.requires.proof c.refine.ensures.proof c.in-Err-RuleFails.ensures.err

pub returns-in-Err-RuleFails-clause-failed : goal.returns-in-Err-RuleFails-clause-failed
returns-in-Err-RuleFails-clause-failed g c fails =
    let i = c.in-Err-RuleFails.field-0-0 in
    failed c.args.world.now c.args.proof.now c.args.place i (step_of c.args.world.now c.args.step)
    (c.refine.ensures.refused i (c.in-Err-RuleFails.is ∙ ap Err c.in-Err-RuleFails.field-0-is))

pub returns-in-Err-RuleFails-clause-same : goal.returns-in-Err-RuleFails-clause-same
returns-in-Err-RuleFails-clause-same g c fails =
    as_before c.args.world.now c.refine.new.world c.args.proof.now c.refine.new.self c.refine.ensures.grows c.requires.proof c.in-Err-RuleFails.ensures.err

pub unreachable-requires : goal.unreachable-requires
unreachable-requires g c =
    let w = c.args.world.now in
    let i = c.in-Err-NotPattern.field-0-0 in
    let f = c.refine.ensures.stuck i (c.in-Err-NotPattern.is ∙ ap Err c.in-Err-NotPattern.field-0-is) in
    never_stuck (declarations_of w) (cells_read w.types w.store) (step_of w c.args.step) f.0 i c.requires.plain f.2

pub returns-in-Err-Memory-clause-follows : goal.returns-in-Err-Memory-clause-follows
returns-in-Err-Memory-clause-follows g c =
    by_same (debts_of (step_of c.args.world.now c.args.step)) c.args.world.now c.refine.new.world c.args.proof.now c.refine.new.self c.refine.ensures.grows c.refine.ensures.declared c.requires.proof c.refine.ensures.proof c.in-Err-Memory.ensures.err

pub returns-in-Err-Memory-clause-unchanged : goal.returns-in-Err-Memory-clause-unchanged
returns-in-Err-Memory-clause-unchanged g c =
    as_before c.args.world.now c.refine.new.world c.args.proof.now c.refine.new.self c.refine.ensures.grows c.requires.proof c.in-Err-Memory.ensures.err
