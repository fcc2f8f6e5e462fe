use Rattle.std.proofs.Common.{◌∙◌}
use Rattle.ab_norm.proofs.Frame.{if_ok}
use Rattle.ab_instances.specs.ListReadings.{names_read}
use Rattle.ab_logic.specs.SequentReadings.{sequent_of}
use Rattle.ab_formulas.specs.Sequents.{goal_names}
use Rattle.ab_alternatives.proofs.GoalNames.{names_are, ids_held, choices_in_order}
use Rattle.ab_alternatives.proofs.constants.goal_constants.Goals as goal

pub constants_of-requires-clause-arguments : goal.constants_of-requires-clause-arguments
constants_of-requires-clause-arguments c =
    let w = c.args.world.now in
    ids_held w c.args.goal.now c.deref.result.now (c.deref.ensures.value ∙ c.in_ok-formulas.ensures) c.requires.goal

pub returns-clause-list : goal.returns-clause-list
returns-clause-list c =
    let w = c.args.world.now in
    let ids = c.deref.result.now in
    if_ok c.constants_of.result (λ list e. e ∙ names_are w c.args.goal.now ids (c.deref.ensures.value ∙ c.in_ok-formulas.ensures)) c.constants_of.ensures.list

pub returns-clause-choices : goal.returns-clause-choices
returns-clause-choices c =
    let w = c.args.world.now in
    let ids = c.deref.result.now in
    if_ok c.constants_of.result (λ list e d. choices_in_order (names_read w.types list.items) (goal_names (sequent_of w c.args.goal.now))
    (e ∙ names_are w c.args.goal.now ids (c.deref.ensures.value ∙ c.in_ok-formulas.ensures)) d) c.constants_of.ensures.list
