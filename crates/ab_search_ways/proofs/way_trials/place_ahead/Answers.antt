use Rattle.std.proofs.Common.{◌≡◌, ◌<◌, [], ◌++◌, List, length, sym, ap, ◌∙◌, subst}
use Rattle.std.specs.Prelude.{is_none}
use Rattle.std.specs.List.{All}
use Rattle.std.proofs.lemmas.List.Elements.{All-weaker, filter-append}
use Rattle.ab_norm.specs.ab_store.specs.declared.node.CellId.{CellId}
use Rattle.ab_norm.specs.ab_store.specs.declared.node.CellEntry.{CellEntry}
use Rattle.ab_norm.specs.ab_store.specs.Reading.{binding_of}
use Rattle.ab_norm.proofs.Frame.{typed_on}
use Rattle.ab_search_ways.specs.Answers.{IsAnswerFor}
use Rattle.ab_search_ways.specs.GoalReadings.{IsTypedGoal}
use Rattle.ab_search_ways.specs.GoalsLeft.{unbound_in, IsResolved}
use Rattle.ab_search_ways.proofs.Resolved.{goal_kept, unbound_both, resolved_both, left_kept}
use Rattle.ab_search_ways.proofs.way_trials.place_ahead.Goals as goal

pub add_touched-requires-clause-goals : goal.add_touched-requires-clause-goals
add_touched-requires-clause-goals g c =
    let types = c.args.types.now in
    All-weaker (IsTypedGoal types c.args.store.now) (IsTypedGoal types c.add_resolved.new.store) (goal_kept types c.args.store.now c.add_resolved.new.store c.add_resolved.ensures.adds) c.args.rest.now c.requires.rest

pub values_of-requires-clause-cells : goal.values_of-requires-clause-cells
values_of-requires-clause-cells g c =
    subst (All (λ (d : CellId). d.0 < length c.add_touched.new.store.cells)) (sym c.deref-3.ensures.value)
    (subst (λ (k : List CellEntry). All (λ (d : CellId). d.0 < length k) c.args.way.now.flexible.items) (sym (c.add_touched.ensures.adds.cells ∙ c.add_resolved.ensures.adds.cells)) c.requires.flexible)

pub returns-in_err-kept-clause-adds : goal.returns-in_err-kept-clause-adds
returns-in_err-kept-clause-adds g c = typed_on c.args.types.now c.args.store.now c.add_resolved.new.store c.add_touched.new.store c.add_resolved.ensures.adds c.add_touched.ensures.adds

pub returns-in_err-goals-clause-adds : goal.returns-in_err-goals-clause-adds
returns-in_err-goals-clause-adds g c = typed_on c.args.types.now c.args.store.now c.add_resolved.new.store c.add_touched.new.store c.add_resolved.ensures.adds c.add_touched.ensures.adds

pub returns-in_err-answer-clause-adds : goal.returns-in_err-answer-clause-adds
returns-in_err-answer-clause-adds g c =
    let types = c.args.types.now in
    let old = c.args.store.now in
    let mid = c.add_resolved.new.store in
    let new = c.add_touched.new.store in
    typed_on types old new c.values_of.new.store (typed_on types old mid new c.add_resolved.ensures.adds c.add_touched.ensures.adds) c.values_of.ensures.adds

pub returns-clause-adds : goal.returns-clause-adds
returns-clause-adds g c =
    let types = c.args.types.now in
    let old = c.args.store.now in
    let mid = c.add_resolved.new.store in
    let new = c.add_touched.new.store in
    typed_on types old new c.values_of.new.store (typed_on types old mid new c.add_resolved.ensures.adds c.add_touched.ensures.adds) c.values_of.ensures.adds

pub returns-clause-answer : goal.returns-clause-answer
returns-clause-answer g c = subst (λ cs. IsAnswerFor c.args.types.now c.values_of.new.store cs c.in_ok-answer.answer.items) c.deref-3.ensures.value c.in_ok-answer.ensures.answer

pub returns-clause-left : goal.returns-clause-left
returns-clause-left g c =
    let types = c.args.types.now in
    let old = c.args.store.now in
    let mid = c.add_resolved.new.store in
    let new = c.add_touched.new.store in
    let way = c.args.way.now in
    let first = subst (λ b. IsResolved types old mid b way.goals.items c.add_resolved.new.list.items) c.new-list.ensures.items (subst (λ gs. IsResolved types old mid c.new-list.result.items gs c.add_resolved.new.list.items) c.deref-2.ensures.value c.in_ok-add_resolved.ensures.resolved) in
    let now = c.add_touched.new.list.items ++ c.in_ok-kept.kept in
    record {
      cells = unbound_both old way.flexible.items c.args.made.now c.new-flexible.result.items c.deref.result.now c.add_unbound.new.kept.items c.add_unbound-2.new.kept.items c.new-flexible.ensures.items c.deref.ensures.value c.in_ok-add_unbound.ensures c.in_ok-add_unbound-2.ensures;
      goals =
          subst (λ gs. IsResolved types old c.values_of.new.store [] (way.goals.items ++ c.args.rest.now) gs) (sym c.in_ok-goals.ensures)
          (left_kept types old new c.values_of.new.store (typed_on types old mid new c.add_resolved.ensures.adds c.add_touched.ensures.adds) c.values_of.ensures.adds (way.goals.items ++ c.args.rest.now) now
          (resolved_both types old mid new c.add_resolved.ensures.adds c.add_touched.ensures.adds way.goals.items c.args.rest.now c.add_resolved.new.list.items now c.requires.rest first c.in_ok-kept.ensures.resolved));
    }
