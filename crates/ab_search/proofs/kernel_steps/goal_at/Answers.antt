use Rattle.std.proofs.Common.{sym}
use Rattle.ab_logic.specs.SequentReadings.{sequent_of}
use Rattle.ab_steps.specs.ab_kernel.proofs.Refines.{goal_sequent}
use Rattle.ab_search.proofs.kernel_steps.goal_at.Goals as goal

pub returns-in-Some-clause-sequent : goal.returns-in-Some-clause-sequent
returns-in-Some-clause-sequent c = λ w world proof.
    goal_sequent w c.args.proof.now c.args.place (sequent_of w c.in-Some.goal.now) world proof (sym (c.in-Some.ensures.reads w))
