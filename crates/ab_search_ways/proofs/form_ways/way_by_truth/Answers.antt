use Rattle.std.proofs.Common.{[], map, sym, ◌∙◌, ap}
use Rattle.std.specs.Prelude.{slice_get}
use Rattle.std.proofs.lemmas.List.Elements.{All-nil}
use Rattle.ab_logic.specs.Worlds.{declarations_of}
use Rattle.ab_search_trees.specs.Ways.{leading_to, by_truth}
use Rattle.ab_search_ways.specs.GoalReadings.{goal_read, HoldsGoal}
use Rattle.ab_search_ways.proofs.FormMade.{leads}
use Rattle.ab_search_ways.proofs.form_ways.way_by_truth.Goals as goal

pub returns-in_ok-leading_to-in-True : goal.returns-in_ok-leading_to-in-True
returns-in_ok-leading_to-in-True c = λ base now aside stands.
    let w = c.args.world.now in
    let g = goal_read w base c.args.goal.now in
    let D = declarations_of w in
    let made = c.in_ok-leading_to-in-True.field-0 in
    let e = c.in_ok-leading_to-in-True.ensures in (
      leading_to D now g [],
      ap (λ k. slice_get (by_truth D now g k) 0) (sym c.in-True.ensures.reads),
      leads w base now.cells now.flexible [] [] made e.equations e.serves (rw e.cells stands.free) (rw e.cells aside) stands.cells (rw e.cells stands.replaced)
          (rw (e.goals ∙ c.new.ensures.items) (All-nil (HoldsGoal w))) (ap (map (goal_read w base)) (e.goals ∙ c.new.ensures.items)),
    )
