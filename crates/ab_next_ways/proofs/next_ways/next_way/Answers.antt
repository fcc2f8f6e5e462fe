use Rattle.std.proofs.Common.{◌≡◌, ◌+◌, List, length, ◌∷◌, ◌++◌, refl, sym, ◌∙◌, subst}
use Rattle.ab_term.specs.Names.{support}
use Rattle.ab_unifiers.specs.Choices.{in_order}
use Rattle.ab_judgements.specs.ab_alternatives.specs.ab_instances.specs.ListReadings.{names_read}
use Rattle.ab_search_trees.specs.Maps.{targets}
use Rattle.ab_logic.specs.Worlds.{declarations_of}
use Rattle.ab_search_ways.specs.GoalReadings.{goal_read}
use Rattle.ab_norm.specs.declared.nominal.Nominal.{Nominal as Named}
use Rattle.ab_next_ways.specs.Cursors.{AreLeft, HoldsMap, HoldsCursor, by_maps, by_hypotheses_from}
use Rattle.ab_next_ways.specs.Stages.{LedOnward}
use Rattle.ab_next_ways.specs.Steps.{IsStep, IsNextWay, behind_choice, behind_rule}
use Rattle.ab_next_ways.specs.declared.cursor.Cursor.TheVariants.{Start, Hypothesis, Form, Second, Choice, Rule}
use Rattle.ab_next_ways.specs.declared.next_ways.Step.TheVariants.{Made, Passed}
use Rattle.ab_next_ways.proofs.Led.{start_led, form_led, second_led, choice_led, rule_led}
use Rattle.ab_next_ways.proofs.Turns.{start_step, form_step, second_step, choice_step, rule_step}
use Rattle.ab_next_ways.proofs.next_ways.next_way.Goals as goal

pub returns-in_ok-way_by_truth-in-Start-clause-step : goal.returns-in_ok-way_by_truth-in-Start-clause-step
returns-in_ok-way_by_truth-in-Start-clause-step g c = λ now ws stands left.
    let w = c.args.world.now in
    let G = goal_read w c.args.base.now c.args.goal.now in
    let D = declarations_of w in
    let o = c.in_ok-way_by_truth-in-Start.field-0 in
    subst (IsStep w c.args.base.now now G ws (Hypothesis 0)) (sym c.made_or_passed.ensures)
    (start_step w c.args.base.now now G ws D refl o (c.in_ok-way_by_truth-in-Start.ensures c.args.base.now now c.requires.aside stands)
    (subst (λ k. AreLeft D now G w.types k ws) (sym c.replace.ensures.value ∙ c.in-Start.is) left))

pub returns-in_ok-way_by_form-in-Form-clause-step : goal.returns-in_ok-way_by_form-in-Form-clause-step
returns-in_ok-way_by_form-in-Form-clause-step g c = λ now ws stands left.
    let w = c.args.world.now in
    let v = c.way_by_form.new.world in
    let G = goal_read w c.args.base.now c.args.goal.now in
    let D = declarations_of w in
    let e = c.in_ok-way_by_form-in-Form.ensures in
    subst (IsStep v c.args.base.now now G ws Second) (sym c.made_or_passed-in-Form.ensures)
    (form_step v c.args.base.now now G ws D e.declared c.in_ok-way_by_form-in-Form.field-0 (e.made c.args.base.now now c.requires.aside stands)
    (subst (λ k. AreLeft D now G w.types k ws) (sym c.replace.ensures.value ∙ c.in-Form.is) left))

pub returns-in_ok-second_way_by_form-in-Second-clause-step : goal.returns-in_ok-second_way_by_form-in-Second-clause-step
returns-in_ok-second_way_by_form-in-Second-clause-step g c = λ now ws stands left.
    let w = c.args.world.now in
    let G = goal_read w c.args.base.now c.args.goal.now in
    let D = declarations_of w in
    subst (IsStep w c.args.base.now now G ws (Choice 0)) (sym c.made_or_passed-in-Second.ensures)
    (second_step w c.args.base.now now G ws D refl c.in_ok-second_way_by_form-in-Second.field-0 (c.in_ok-second_way_by_form-in-Second.ensures c.args.base.now now c.requires.aside stands)
    (subst (λ k. AreLeft D now G w.types k ws) (sym c.replace.ensures.value ∙ c.in-Second.is) left))

pub way_by_map-requires-clause-map : goal.way_by_map-requires-clause-map
way_by_map-requires-clause-map g c =
    let w = c.args.world.now in
    let k = c.args.goal.now in
    subst (λ (l : List Named). HoldsMap w c.args.base.now k c.in-Map.number c.in-Map.names.items l) (sym c.deref.ensures.value)
    (subst (HoldsCursor w c.args.base.now k) (sym c.replace.ensures.value ∙ c.in-Map.is) c.requires.cursor)

pub returns-in_ok-cursor-in-Hypothesis-clause-step : goal.returns-in_ok-cursor-in-Hypothesis-clause-step
returns-in_ok-cursor-in-Hypothesis-clause-step g c = λ now ws stands left.
    let w = c.args.world.now in
    let G = goal_read w c.args.base.now c.args.goal.now in
    c.in_ok-cursor-in-Hypothesis.ensures.passed now ws stands (subst (λ k. AreLeft (declarations_of w) now G w.types k ws) (sym c.replace.ensures.value ∙ c.in-Hypothesis.is) left)

pub returns-in_ok-way_by_map-in-Map-clause-step : goal.returns-in_ok-way_by_map-in-Map-clause-step
returns-in_ok-way_by_map-in-Map-clause-step g c = λ now ws stands left.
    let w = c.args.world.now in
    let v = c.way_by_map.new.world in
    let base = c.args.base.now in
    let G = goal_read w base c.args.goal.now in
    let D = declarations_of w in
    let l = subst (λ k. AreLeft D now G w.types k ws) (sym c.replace.ensures.value ∙ c.in-Map.is) left in
    let e = c.in_ok-way_by_map-in-Map.ensures in
    subst (λ E. IsNextWay v base now G ws c.way_by_map.new.cursor E c.in_ok-way_by_map-in-Map.field-0) (sym e.declared)
    (e.made now l.3 l.4 ws stands l.0 l.1 l.2
    (subst (λ (t : List Named). targets (in_order (support l.0)) G.constants ≡ l.3 ++ names_read w.types t ∷ l.4) (sym c.deref.ensures.value) l.5)
    (subst (λ (t : List Named). ws ≡ by_maps D now G l.0 (names_read w.types t ∷ l.4) ++ by_hypotheses_from D now G (c.in-Map.number + 1)) (sym c.deref.ensures.value) l.6))

pub returns-in_ok-cursor-in-Choice-clause-step : goal.returns-in_ok-cursor-in-Choice-clause-step
returns-in_ok-cursor-in-Choice-clause-step g c = λ now ws stands left.
    let w = c.args.world.now in
    let v = c.way_by_choice.new.world in
    let G = goal_read w c.args.base.now c.args.goal.now in
    let D = declarations_of w in
    let e = c.in_ok-way-in-Choice.ensures in
    let o = c.in_ok-way-in-Choice.way in
    subst (λ k. IsStep v c.args.base.now now G ws k c.made_or_passed-in-Choice.result) (sym c.in_ok-cursor-in-Choice.ensures)
    (subst (IsStep v c.args.base.now now G ws (behind_choice o c.in-Choice.number)) (sym c.made_or_passed-in-Choice.ensures)
    (choice_step v c.args.base.now now G ws D e.declared c.in-Choice.number o (e.made c.args.base.now now c.requires.aside stands)
    (subst (λ k. AreLeft D now G w.types k ws) (sym c.replace.ensures.value ∙ c.in-Choice.is) left)))

pub returns-in_ok-cursor-in-Rule-clause-step : goal.returns-in_ok-cursor-in-Rule-clause-step
returns-in_ok-cursor-in-Rule-clause-step g c = λ now ws stands left.
    let w = c.args.world.now in
    let v = c.way_by_rule.new.world in
    let G = goal_read w c.args.base.now c.args.goal.now in
    let D = declarations_of w in
    let e = c.in_ok-way-in-Rule.ensures in
    let o = c.in_ok-way-in-Rule.way in
    subst (λ k. IsStep v c.args.base.now now G ws k c.made_or_passed-in-Rule.result) (sym c.in_ok-cursor-in-Rule.ensures)
    (subst (IsStep v c.args.base.now now G ws (behind_rule o c.in-Rule.number)) (sym c.made_or_passed-in-Rule.ensures)
    (rule_step v c.args.base.now now G ws D e.declared c.in-Rule.number o (e.made c.args.base.now now c.requires.aside stands)
    (subst (λ k. AreLeft D now G w.types k ws) (sym c.replace.ensures.value ∙ c.in-Rule.is) left)))

pub returns-in_ok-way_by_truth-in-Start-clause-onward : goal.returns-in_ok-way_by_truth-in-Start-clause-onward
returns-in_ok-way_by_truth-in-Start-clause-onward g c =
    let n = length (goal_read c.args.world.now c.args.base.now c.args.goal.now).hypotheses in
    subst (λ k. LedOnward n k (Hypothesis 0) c.made_or_passed.result) (sym (sym c.replace.ensures.value ∙ c.in-Start.is)) (subst (LedOnward n Start (Hypothesis 0)) (sym c.made_or_passed.ensures) (start_led n c.in_ok-way_by_truth-in-Start.field-0))

pub returns-in_ok-way_by_form-in-Form-clause-onward : goal.returns-in_ok-way_by_form-in-Form-clause-onward
returns-in_ok-way_by_form-in-Form-clause-onward g c =
    let n = length (goal_read c.args.world.now c.args.base.now c.args.goal.now).hypotheses in
    subst (λ k. LedOnward n k Second c.made_or_passed-in-Form.result) (sym (sym c.replace.ensures.value ∙ c.in-Form.is)) (subst (LedOnward n Form Second) (sym c.made_or_passed-in-Form.ensures) (form_led n c.in_ok-way_by_form-in-Form.field-0))

pub returns-in_ok-second_way_by_form-in-Second-clause-onward : goal.returns-in_ok-second_way_by_form-in-Second-clause-onward
returns-in_ok-second_way_by_form-in-Second-clause-onward g c =
    let n = length (goal_read c.args.world.now c.args.base.now c.args.goal.now).hypotheses in
    subst (λ k. LedOnward n k (Choice 0) c.made_or_passed-in-Second.result) (sym (sym c.replace.ensures.value ∙ c.in-Second.is)) (subst (LedOnward n Second (Choice 0)) (sym c.made_or_passed-in-Second.ensures) (second_led n c.in_ok-second_way_by_form-in-Second.field-0))

pub returns-in_ok-cursor-in-Choice-clause-onward : goal.returns-in_ok-cursor-in-Choice-clause-onward
returns-in_ok-cursor-in-Choice-clause-onward g c =
    let n = length (goal_read c.args.world.now c.args.base.now c.args.goal.now).hypotheses in
    let o = c.in_ok-way-in-Choice.way in
    let k = c.in-Choice.number in
    subst (λ b. LedOnward n b c.in_ok-cursor-in-Choice.field-0 c.made_or_passed-in-Choice.result) (sym (sym c.replace.ensures.value ∙ c.in-Choice.is))
    (subst (λ d. LedOnward n (Choice k) d c.made_or_passed-in-Choice.result) (sym c.in_ok-cursor-in-Choice.ensures) (subst (LedOnward n (Choice k) (behind_choice o k)) (sym c.made_or_passed-in-Choice.ensures) (choice_led n k o)))

pub returns-in_ok-cursor-in-Rule-clause-onward : goal.returns-in_ok-cursor-in-Rule-clause-onward
returns-in_ok-cursor-in-Rule-clause-onward g c =
    let n = length (goal_read c.args.world.now c.args.base.now c.args.goal.now).hypotheses in
    let o = c.in_ok-way-in-Rule.way in
    let k = c.in-Rule.number in
    subst (λ b. LedOnward n b c.in_ok-cursor-in-Rule.field-0 c.made_or_passed-in-Rule.result) (sym (sym c.replace.ensures.value ∙ c.in-Rule.is))
    (subst (λ d. LedOnward n (Rule k) d c.made_or_passed-in-Rule.result) (sym c.in_ok-cursor-in-Rule.ensures) (subst (LedOnward n (Rule k) (behind_rule o k)) (sym c.made_or_passed-in-Rule.ensures) (rule_led n k o)))

pub returns-in_ok-cursor-in-Hypothesis-clause-onward : goal.returns-in_ok-cursor-in-Hypothesis-clause-onward
returns-in_ok-cursor-in-Hypothesis-clause-onward g c =
    let n = length (goal_read c.args.world.now c.args.base.now c.args.goal.now).hypotheses in
    subst (λ k. LedOnward n k c.in_ok-cursor-in-Hypothesis.field-0 Passed) (sym (sym c.replace.ensures.value ∙ c.in-Hypothesis.is)) c.in_ok-cursor-in-Hypothesis.ensures.onward

pub returns-in_ok-way_by_map-in-Map-clause-onward : goal.returns-in_ok-way_by_map-in-Map-clause-onward
returns-in_ok-way_by_map-in-Map-clause-onward g c =
    let n = length (goal_read c.args.world.now c.args.base.now c.args.goal.now).hypotheses in
    subst (λ k. LedOnward n k c.way_by_map.new.cursor (Made c.in_ok-way_by_map-in-Map.field-0)) (sym (sym c.replace.ensures.value ∙ c.in-Map.is)) c.in_ok-way_by_map-in-Map.ensures.onward
