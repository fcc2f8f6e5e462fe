use Rattle.std.proofs.Common.{◌≡◌, List, [], ◌∷◌, true, cond, ◌∙◌, ap, subst, rules, append-nil}
use Rattle.std.specs.Prelude.{slice_get}
use Rattle.ab_term.specs.Names.{support}
use Rattle.ab_term.specs.Terms as terms
use Rattle.ab_norm.specs.ab_types.specs.Ids.{type_of}
use Rattle.ab_unifiers.specs.Choices.{in_order}
use Rattle.ab_instances.specs.ListReadings.{names_read}
use Rattle.ab_logic.specs.Worlds.{read, declarations_of}
use Rattle.ab_search_ways.specs.GoalReadings.{goal_read}
use Rattle.ab_search_ways.specs.MadeWays.{IsMade}
use Rattle.ab_search_ways.proofs.LaterWorlds.{later_goal}
use Rattle.ab_search_ways.proofs.Quantified.{for_all_way, for_all_made}
use Rattle.ab_search_ways.proofs.form_ways.by_for_all.Goals as goal

pub way_to_conclusion-requires-clause-goal : goal.way_to_conclusion-requires-clause-goal
way_to_conclusion-requires-clause-goal g c = later_goal c.args.world.now c.raise.new.world c.in_ok-made.ensures.grows c.args.goal.now c.requires.goal

pub returns-clause-made : goal.returns-clause-made
returns-clause-made g c = λ base now aside stands.
    let w = c.args.world.now in
    let v = c.raise.new.world in
    let e = c.in_ok-made.ensures in
    let G = goal_read w base c.args.goal.now in
    let made = c.in_ok-way_to_conclusion.field-0 in
    let A = type_of w.types c.args.ty in
    let F = read w c.args.body in
    let ns = in_order (support (read w c.args.goal.now.conclusion)) in
    let untouched : c.args.goal.now.untouched ≡ true = search rules in
    let names : names_read w.types c.deref.result.now ≡ ns = ap (names_read w.types) c.deref.ensures.value ∙ c.in_ok-names.ensures.list ∙ ap in_order (append-nil (support (read w c.args.goal.now.conclusion))) in (
      for_all_way now G A F ns,
      ap (λ b. slice_get (cond b (for_all_way now G A F ns ∷ []) []) 0) untouched,
      subst (λ (l : List terms.Nominal). IsMade v base (for_all_way now G A F l) made) names
          (for_all_made w v c.requires.world e.grows (declarations_of w) A F c.args.goal.now c.requires.goal c.args.flexible.now (names_read w.types c.deref.result.now) c.in_ok-made.made.cell e.number e.cells c.in_ok-made.made.formula e.reads base now aside stands
          made c.in_ok-way_to_conclusion.ensures),
    )
