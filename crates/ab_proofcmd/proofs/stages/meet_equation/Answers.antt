use Rattle.ab_hypothesis.specs.ab_steps.proofs.Following.{follows_on}
use Rattle.ab_proofcmd.proofs.Places.{gives_on}
use Rattle.ab_proofcmd.proofs.stages.meet_equation.Goals as goal

pub returns-in_err-step_into-clause-follows : goal.returns-in_err-step_into-clause-follows
returns-in_err-step_into-clause-follows g c = follows_on _ _ _ _ _ _ c.ask_antecedent.ensures.follows c.step_into.ensures.follows

pub returns-in_err-step_into-2-clause-follows : goal.returns-in_err-step_into-2-clause-follows
returns-in_err-step_into-2-clause-follows g c = follows_on _ _ _ _ _ _ (follows_on _ _ _ _ _ _ c.ask_antecedent.ensures.follows c.step_into.ensures.follows) c.step_into-2.ensures.follows

pub returns-clause-follows : goal.returns-clause-follows
returns-clause-follows g c = follows_on _ _ _ _ _ _ (follows_on _ _ _ _ _ _ c.ask_antecedent.ensures.follows c.step_into.ensures.follows) c.step_into-2.ensures.follows

pub returns-clause-gives : goal.returns-clause-gives
returns-clause-gives g c =
    let w = c.args.world.now in
    let p = c.args.proof.now in
    let one = gives_on w c.ask_antecedent.new.world c.step_into.new.world p c.ask_antecedent.new.proof c.step_into.new.proof c.args.place 1 0 c.in_ok-own.ensures.gives c.in_ok-step_into.ensures.gives in
    gives_on w c.step_into.new.world c.step_into-2.new.world p c.step_into.new.proof c.step_into-2.new.proof c.args.place 0 1 one c.in_ok-step_into-2.ensures.gives
