use Rattle.std.proofs.Common.{List, [], ◌∷◌, ◌++◌, false, refl, sym, ◌∙◌, ap, subst}
use Rattle.ab_norm.specs.ab_types.specs.Ids.{type_of}
use Rattle.ab_norm.specs.declared.nominal.Nominal.{Nominal}
use Rattle.ab_instances.specs.ListReadings.{names_read}
use Rattle.ab_logic.specs.Worlds.{Holds, read, declarations_of}
use Rattle.ab_search_trees.specs.Goals as tree
use Rattle.ab_search_ways.specs.GoalReadings.{goal_read}
use Rattle.ab_search_ways.specs.MadeWays.{IsMade}
use Rattle.ab_search_ways.specs.declared.goal.Goal.{Goal}
use Rattle.ab_search_ways.specs.declared.way.Way.{Way}
use Rattle.ab_search_ways.proofs.FormMade.{asking_held}
use Rattle.ab_search_ways.proofs.LaterWorlds.{later_goal}
use Rattle.ab_search_ways.proofs.Quantified.{exists_way, exists_made}
use Rattle.ab_search_ways.proofs.form_ways.by_exists.Goals as goal

pub returns-clause-made : goal.returns-clause-made
returns-clause-made g c = λ base now aside stands.
    let w = c.args.world.now in
    let v = c.raise.new.world in
    let e = c.in_ok-made.ensures in
    let first = c.in_ok-only.only in
    let asked = c.in_ok-only.ensures in
    let k : Goal = record first { untouched = false; member_first = c.args.goal.now.member_first } in
    let made : Way = record c.in_ok-way.way { flexible = c.push.new.self } in
    let way = c.in_ok-way.ensures in
    let A = type_of w.types c.args.ty in
    let F = read w c.args.body in (
      exists_way now (goal_read w base c.args.goal.now) A F (names_read w.types c.args.goal.now.constants.items),
      refl,
      subst (λ (l : List Nominal). IsMade v base (exists_way now (goal_read w base c.args.goal.now) A F (names_read w.types l)) made) c.deref.ensures.value
          (exists_made w v c.requires.world e.grows (declarations_of w) A F c.args.goal.now c.requires.goal c.args.flexible.now (names_read w.types c.deref.result.now) c.in_ok-made.made.cell e.number e.cells c.in_ok-made.made.formula e.reads base now aside stands
          made k way.equations way.serves (c.in_ok-push.ensures.items ∙ ap (λ l. l ++ c.in_ok-made.made.cell ∷ []) way.cells) (way.goals ∙ c.in_ok-from_array.ensures.items)
          (asking_held v k c.args.goal.now asked.added asked.constants (subst (Holds v) (sym asked.conclusion) e.formula.0) (later_goal w v e.grows c.args.goal.now c.requires.goal))
          (ap (λ (q : tree.Goal). record q { untouched = false; member_first = c.args.goal.now.member_first }) (asked.reads v base))),
    )
