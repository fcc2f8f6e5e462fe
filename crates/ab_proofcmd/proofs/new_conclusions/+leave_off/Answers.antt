use Rattle.ab_hypothesis.specs.ab_steps.proofs.Following.{follows_on}
use Rattle.ab_hypothesis.proofs.Moves.{on_ok}
use Rattle.ab_proofcmd.proofs.Places.{gives_on}
use Rattle.ab_proofcmd.proofs.new_conclusions.+leave_off.Goals as goal

pub returns-in_ok-next-in-len1-up-clause-follows : goal.returns-in_ok-next-in-len1-up-clause-follows
returns-in_ok-next-in-len1-up-clause-follows g t c = follows_on _ _ _ _ _ _ c.meet_equation.ensures.follows c.leave_off.ensures.follows

pub returns-in_ok-next-in-len1-up-clause-gives : goal.returns-in_ok-next-in-len1-up-clause-gives
returns-in_ok-next-in-len1-up-clause-gives g t c =
    on_ok c.leave_off.result
    (gives_on c.args.world.now c.meet_equation.new.world c.leave_off.new.world c.args.proof.now c.meet_equation.new.proof c.leave_off.new.proof c.args.place 0 0 c.in_ok-next-in-len1-up.ensures.gives)
    c.leave_off.ensures.gives
