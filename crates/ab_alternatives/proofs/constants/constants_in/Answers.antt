use Rattle.ab_instances.specs.ListReadings.{names_read}
use Rattle.ab_logic.specs.SequentReadings.{sequent_of}
use Rattle.ab_formulas.specs.Sequents.{goal_names}
use Rattle.ab_alternatives.proofs.GoalNames.{members_in_order}
use Rattle.ab_alternatives.proofs.constants.constants_in.Goals as goal

pub returns-clause-of_goal : goal.returns-clause-of_goal
returns-clause-of_goal c =
    let w = c.args.world.now in
    members_in_order (names_read w.types c.in_ok-of_goal.of_goal.items) (goal_names (sequent_of w c.args.goal.now)) c.in_ok-of_goal.ensures.list
