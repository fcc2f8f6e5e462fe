use Rattle.std.specs.Prelude.{Ok}
use Rattle.std.proofs.Common.{◌∙◌, ap}
use Rattle.ab_conclusion.proofs.UnfoldingGoals.{unfold_applied, unfold_never_fails, unfold_never_sticks}
use Rattle.ab_steps.proofs.Following.{some_goal}
use Rattle.ab_conclusion.proofs.unfoldings.unfold_by.Goals as goal

pub attempt_solving-requires-clause-place : goal.attempt_solving-requires-clause-place
attempt_solving-requires-clause-place g c = some_goal _ c.requires.open

pub unreachable-requires : goal.unreachable-requires
unreachable-requires g c =
    let i = c.in-Failed.field-0 in
    unfold_never_fails c.args.world.now c.args.proof.now c.args.place c.requires.unfolds c.requires.open i (c.attempt_solving.ensures.failed i (c.in_ok-attempt_solving.was ∙ ap Ok c.in-Failed.is))

pub unreachable-requires-in-Stuck : goal.unreachable-requires-in-Stuck
unreachable-requires-in-Stuck g c =
    let i = c.in-Stuck.field-0 in
    unfold_never_sticks c.args.world.now c.args.proof.now c.args.place c.requires.unfolds c.requires.open i (c.attempt_solving.ensures.stuck i (c.in_ok-attempt_solving.was ∙ ap Ok c.in-Stuck.is))

pub returns-clause-applied : goal.returns-clause-applied
returns-clause-applied g c =
    let n = c.in-Taken.field-0 in
    unfold_applied c.args.world.now c.attempt_solving.new.world c.args.proof.now c.attempt_solving.new.proof c.args.place c.requires.world c.requires.proof c.requires.unfolds n
    (c.attempt_solving.ensures.took n (c.in_ok-attempt_solving.was ∙ ap Ok c.in-Taken.is))
