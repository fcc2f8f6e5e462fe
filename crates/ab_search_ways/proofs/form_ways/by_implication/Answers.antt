use Rattle.std.proofs.Common.{[], ◌∷◌, sym, ◌∙◌, ap, subst}
use Rattle.ab_logic.specs.Worlds.{Holds, read}
use Rattle.ab_search_trees.specs.Goals as tree
use Rattle.ab_search_ways.specs.GoalReadings.{goal_read}
use Rattle.ab_search_ways.proofs.FormMade.{leads, one_held, one_read, asking_held, assuming_held, if_four}
use Rattle.ab_search_ways.proofs.form_ways.by_implication.Goals as goal

pub returns : goal.returns
returns c =
    let w = c.args.world.now in
    let first = c.in_ok-with_conclusion.field-0 in
    let asked = c.in_ok-with_conclusion.ensures in
    let only = c.in_ok-only.only in
    let assumed = c.in_ok-only.ensures in
    if_four c.leading_to.result (λ made cells equations serves goals base now aside stands.
    let g = goal_read w base c.args.goal.now in
    let items = goals ∙ c.in_ok-from_array.ensures.items in
    leads w base now.cells now.flexible [] (tree.asking (read w c.args.asked) (tree.assuming (read w c.args.given) g) ∷ []) made equations serves (rw cells stands.free) (rw cells aside) stands.cells (rw cells stands.replaced)
    (one_held w only made.goals.items items
    (assuming_held w only first c.args.given assumed.added assumed.constants assumed.conclusion c.requires.given
    (asking_held w first c.args.goal.now asked.added asked.constants (subst (Holds w) (sym asked.conclusion) c.requires.asked) c.requires.goal)))
    (one_read w base only made.goals.items (tree.asking (read w c.args.asked) (tree.assuming (read w c.args.given) g)) items
    (assumed.reads w base ∙ ap (tree.assuming (read w c.args.given)) (asked.reads w base)))) c.leading_to.ensures.cells c.leading_to.ensures.equations c.leading_to.ensures.serves c.leading_to.ensures.goals
