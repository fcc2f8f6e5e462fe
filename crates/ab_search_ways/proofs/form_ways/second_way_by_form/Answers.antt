use Rattle.std.proofs.Common.{[], ◌∷◌, sym, ap}
use Rattle.std.specs.Prelude.{slice_get}
use Rattle.ab_logic.specs.Worlds.{read, declarations_of}
use Rattle.ab_search_trees.specs.Goals as tree
use Rattle.ab_search_trees.specs.Ways.{leading_to, by_form}
use Rattle.ab_search_ways.specs.GoalReadings.{goal_read}
use Rattle.ab_search_ways.proofs.form_ways.second_way_by_form.Goals as goal

pub returns-in_ok-way_to_conclusion-in-Or : goal.returns-in_ok-way_to_conclusion-in-Or
returns-in_ok-way_to_conclusion-in-Or c = λ base now aside stands.
    let w = c.args.world.now in
    let g = goal_read w base c.args.goal.now in
    let D = declarations_of w in (
      leading_to D now g (tree.asking (read w c.in-Or.right) g ∷ []),
      ap (λ k. slice_get (by_form D now g k) 1) (sym c.in-Or.ensures.reads),
      c.in_ok-way_to_conclusion-in-Or.ensures base now aside stands,
    )
