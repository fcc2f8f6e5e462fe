use Rattle.ab_hypothesis.specs.ab_steps.proofs.Following.{follows_on}
use Rattle.ab_hypothesis.proofs.Moves.{on_ok}
use Rattle.ab_proofcmd.proofs.Places.{gives_on}
use Rattle.ab_proofcmd.proofs.new_conclusions.+take_on.Goals as goal

pub returns-in_ok-step_into-in-len1-up-clause-follows : goal.returns-in_ok-step_into-in-len1-up-clause-follows
returns-in_ok-step_into-in-len1-up-clause-follows g t c = follows_on _ _ _ _ _ _ c.step_into-in-len1-up.ensures.follows c.take_on.ensures.follows

pub returns-in_ok-step_into-in-len1-up-clause-gives : goal.returns-in_ok-step_into-in-len1-up-clause-gives
returns-in_ok-step_into-in-len1-up-clause-gives g t c =
    on_ok c.take_on.result
    (gives_on c.args.world.now c.step_into-in-len1-up.new.world c.take_on.new.world c.args.proof.now c.step_into-in-len1-up.new.proof c.take_on.new.proof c.args.place 0 0 c.in_ok-step_into-in-len1-up.ensures.gives)
    c.take_on.ensures.gives
