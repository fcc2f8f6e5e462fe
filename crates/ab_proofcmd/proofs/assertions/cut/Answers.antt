use Rattle.std.specs.Prelude.{Err}
use Rattle.std.proofs.Common.{◌∙◌, ap}
use Rattle.ab_unify.specs.Problem.{cells_read}
use Rattle.ab_logic.specs.Worlds.{read, declarations_of}
use Rattle.ab_equations.specs.Labels.{label_of}
use Rattle.ab_theory.specs.Steps.{cut_formula}
use Rattle.ab_hypothesis.specs.ab_steps.proofs.Plain.{never_stuck}
use Rattle.ab_hypothesis.specs.ab_steps.proofs.Following.{follows_same, as_before, by_step, took}
use Rattle.ab_proofcmd.proofs.assertions.cut.Goals as goal

pub returns-in-Ok-clause-took : goal.returns-in-Ok-clause-took
returns-in-Ok-clause-took g c =
    took c.args.world.now c.refine.new.world c.args.proof.now c.refine.new.self 0 _ (cut_formula (read c.args.world.now c.args.formula) (label_of c.args.label)) c.in-Ok.ensures.step

pub returns-in-Ok-clause-follows : goal.returns-in-Ok-clause-follows
returns-in-Ok-clause-follows g c =
    by_step c.args.world.now c.refine.new.world c.args.proof.now c.refine.new.self 0 _ (cut_formula (read c.args.world.now c.args.formula) (label_of c.args.label))
    c.refine.ensures.grows c.refine.ensures.declared c.refine.ensures.proof c.in-Ok.ensures.step c.in-Ok.ensures.layout

pub returns-then-condition-eq1-clause-follows : goal.returns-then-condition-eq1-clause-follows
returns-then-condition-eq1-clause-follows g c =
    follows_same c.args.world.now c.refine.new.world c.args.proof.now c.refine.new.self c.refine.ensures.grows c.refine.ensures.declared c.requires.proof c.refine.ensures.proof c.in-Err-RuleFails.ensures.err

pub returns-then-condition-eq1-clause-unchanged : goal.returns-then-condition-eq1-clause-unchanged
returns-then-condition-eq1-clause-unchanged g c =
    as_before c.args.world.now c.refine.new.world c.args.proof.now c.refine.new.self c.refine.ensures.grows c.requires.proof c.in-Err-RuleFails.ensures.err

pub returns-else-condition-eq1-clause-follows : goal.returns-else-condition-eq1-clause-follows
returns-else-condition-eq1-clause-follows g c =
    follows_same c.args.world.now c.refine.new.world c.args.proof.now c.refine.new.self c.refine.ensures.grows c.refine.ensures.declared c.requires.proof c.refine.ensures.proof c.in-Err-RuleFails.ensures.err

pub returns-else-condition-eq1-clause-unchanged : goal.returns-else-condition-eq1-clause-unchanged
returns-else-condition-eq1-clause-unchanged g c =
    as_before c.args.world.now c.refine.new.world c.args.proof.now c.refine.new.self c.refine.ensures.grows c.requires.proof c.in-Err-RuleFails.ensures.err

pub unreachable-requires : goal.unreachable-requires
unreachable-requires g c =
    let w = c.args.world.now in
    let i = c.in-Err-NotPattern.field-0-0 in
    let f = c.refine.ensures.stuck i (c.in-Err-NotPattern.is ∙ ap Err c.in-Err-NotPattern.field-0-is) in
    never_stuck (declarations_of w) (cells_read w.types w.store) (cut_formula (read w c.args.formula) (label_of c.args.label)) f.0 i tt f.2

pub returns-in-Err-Memory-clause-follows : goal.returns-in-Err-Memory-clause-follows
returns-in-Err-Memory-clause-follows g c =
    follows_same c.args.world.now c.refine.new.world c.args.proof.now c.refine.new.self c.refine.ensures.grows c.refine.ensures.declared c.requires.proof c.refine.ensures.proof c.in-Err-Memory.ensures.err

pub returns-in-Err-Memory-clause-unchanged : goal.returns-in-Err-Memory-clause-unchanged
returns-in-Err-Memory-clause-unchanged g c =
    as_before c.args.world.now c.refine.new.world c.args.proof.now c.refine.new.self c.refine.ensures.grows c.requires.proof c.in-Err-Memory.ensures.err
