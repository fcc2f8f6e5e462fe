use Rattle.std.proofs.Common.{◌-◌, Some, None, ◌∙◌, ap, subst}
use Rattle.std.specs.Option.{option_map}
use Rattle.ab_judgements.specs.ab_alternatives.specs.ab_instances.specs.ListReadings.{names_read}
use Rattle.ab_logic.specs.Worlds.{read, declarations_of}
use Rattle.ab_theory.specs.Atoms.{defined_atom, choices_of}
use Rattle.ab_judgements.specs.ab_alternatives.specs.AtomReadings.{defined_read}
use Rattle.ab_judgements.specs.ab_alternatives.specs.Choices.{read_choice}
use Rattle.ab_search_trees.specs.Ways.{by_choice}
use Rattle.ab_search_ways.specs.GoalReadings.{goal_read}
use Rattle.ab_next_ways.specs.Unfoldable.{IsUnfoldable}
use Rattle.ab_next_ways.proofs.ClauseChoice.{way_there, choice_there, get_there}
use Rattle.ab_next_ways.proofs.clause_ways.way_by_choice.Goals as goal

pub returns-in_default-2-clause-made : goal.returns-in_default-2-clause-made
returns-in_default-2-clause-made g c = λ base now aside stands.
    let w = c.args.world.now in
    let D = declarations_of w in
    let G = goal_read w base c.args.goal.now in
    let d = defined_read w c.in-Some.atom in
    let m = subst (IsUnfoldable w c.args.goal.now) c.in-Some.is c.in_ok-atom.ensures in
    way_there D now G c.args.goal.now.depth c.args.number (defined_atom D (read w c.args.goal.now.conclusion)) d m.deep m.reads m.unfolds
    ∙ ap (option_map (by_choice D now G (c.args.goal.now.depth - 1) d))
    (choice_there w d c.deref-3.result.now c.args.goal.now.constants.items c.args.number c.in_ok-choice.field-0 None c.deref-3.ensures.value c.in_ok-choice.ensures.choice c.in_default-2.is)

pub way_by_clause-requires-clause-among : goal.way_by_clause-requires-clause-among
way_by_clause-requires-clause-among g c =
    let w = c.args.world.now in
    let d = defined_read w c.in-Some.atom in
    get_there (choices_of (names_read w.types c.args.goal.now.constants.items) d) c.args.number (read_choice w c.in-Some-2.choice)
    (choice_there w d c.deref-3.result.now c.args.goal.now.constants.items c.args.number c.in_ok-choice.field-0 (Some c.in-Some-2.choice) c.deref-3.ensures.value c.in_ok-choice.ensures.choice c.in-Some-2.is)

pub returns-clause-made : goal.returns-clause-made
returns-clause-made g c = λ base now aside stands.
    let w = c.args.world.now in
    let D = declarations_of w in
    let G = goal_read w base c.args.goal.now in
    let d = defined_read w c.in-Some.atom in
    let m = subst (IsUnfoldable w c.args.goal.now) c.in-Some.is c.in_ok-atom.ensures in (
      by_choice D now G (c.args.goal.now.depth - 1) d (read_choice w c.in-Some-2.choice),
      way_there D now G c.args.goal.now.depth c.args.number (defined_atom D (read w c.args.goal.now.conclusion)) d m.deep m.reads m.unfolds
          ∙ ap (option_map (by_choice D now G (c.args.goal.now.depth - 1) d))
          (choice_there w d c.deref-3.result.now c.args.goal.now.constants.items c.args.number c.in_ok-choice.field-0 (Some c.in-Some-2.choice) c.deref-3.ensures.value c.in_ok-choice.ensures.choice c.in-Some-2.is),
      c.in_ok-way.ensures.made base now aside stands,
    )
