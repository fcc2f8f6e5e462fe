use Rattle.std.proofs.Common.{Ok, arith, ◌∙◌, ap}
use Rattle.ab_alternatives.proofs.Passed.{later_not, later_on, passed_none}
use Rattle.ab_alternatives.proofs.Later.{clause_kept, still_ready}
use Rattle.ab_alternatives.proofs.NextChoice.{next_predicate, next_names, next_fit, one_more_passed, stopped_there}
use Rattle.ab_alternatives.proofs.clause_cases.try_choices.Goals as goal

pub loop-names-init : goal.loop-names-init
loop-names-init g c = record {
  passed = passed_none c.args.world.now c.args.goals.now.items c.requires.goals;
  later = later_not c.args.world.now c.requires.ready.world;
  counted = omega arith;
}

pub try_choice-requires-clause-ready : goal.try_choice-requires-clause-ready
try_choice-requires-clause-ready g c = still_ready c.args.world.now c.loop-names.world c.loop-names.invariant.later c.args.atom.now c.args.constants.now c.args.goal.now c.args.rest.now c.requires.ready

pub try_choice-requires-clause-clause : goal.try_choice-requires-clause-clause
try_choice-requires-clause-clause g c = clause_kept c.args.world.now c.loop-names.world c.loop-names.invariant.later c.args.clause.now c.requires.clause

pub try_choice-requires-clause-predicate : goal.try_choice-requires-clause-predicate
try_choice-requires-clause-predicate g c =
    next_predicate c.args.world.now c.loop-names.world c.loop-names.invariant.later c.args.atom.now c.args.constants.now c.args.goal.now c.args.rest.now c.requires.ready c.args.name.now c.args.clause.now c.requires.clause c.requires.predicate

pub try_choice-requires-clause-names : goal.try_choice-requires-clause-names
try_choice-requires-clause-names g c =
    next_names c.args.world.now c.loop-names.world c.loop-names.invariant.later c.args.atom.now c.args.constants.now c.args.goal.now c.args.rest.now c.requires.ready c.args.name.now c.args.clause.now c.requires.clause
    c.args.choices.now c.loop-names.names-index c.names-item.result c.loop-names-test.true c.requires.choices c.as_slice-names.result.now (c.as_slice-names.ensures ∙ c.names-item.is)

pub try_choice-requires-clause-fit : goal.try_choice-requires-clause-fit
try_choice-requires-clause-fit g c =
    next_fit c.args.world.now c.loop-names.world c.loop-names.invariant.later c.args.atom.now c.args.constants.now c.args.goal.now c.args.rest.now c.requires.ready c.args.name.now c.args.clause.now c.requires.clause
    c.args.choices.now c.loop-names.names-index c.names-item.result c.loop-names-test.true c.requires.choices c.requires.fit c.as_slice-names.result.now (c.as_slice-names.ensures ∙ c.names-item.is)

pub try_choice-requires-clause-goals : goal.try_choice-requires-clause-goals
try_choice-requires-clause-goals g c = c.loop-names.invariant.passed.held

pub returns-in_err-place-clause-later : goal.returns-in_err-place-clause-later
returns-in_err-place-clause-later g c = later_on c.args.world.now c.loop-names.world c.try_choice.new.world c.loop-names.invariant.later c.try_choice.ensures.later

pub returns-in-Some-clause-later : goal.returns-in-Some-clause-later
returns-in-Some-clause-later g c = later_on c.args.world.now c.loop-names.world c.try_choice.new.world c.loop-names.invariant.later c.try_choice.ensures.later

pub returns-in-Some-clause-stopped : goal.returns-in-Some-clause-stopped
returns-in-Some-clause-stopped g c = λ i e.
    stopped_there c.args.world.now c.loop-names.world c.loop-names.invariant.later c.args.atom.now c.args.constants.now c.args.goal.now c.args.rest.now c.requires.ready c.args.name.now c.args.clause.now c.requires.clause
    c.args.choices.now c.loop-names.names-index c.names-item.result c.loop-names-test.true c.requires.choices c.as_slice-names.result.now (c.as_slice-names.ensures ∙ c.names-item.is)
    c.args.goals.now.items c.loop-names.goals.items c.loop-names.invariant.passed i (c.try_choice.ensures.stopped i (c.in_ok-place.was ∙ ap (λ q. Ok q) c.in-Some.is ∙ e))

pub loop-names-preserved : goal.loop-names-preserved
loop-names-preserved g c =
    let before = c.loop-names.invariant.counted in
    let more = c.try_choice.ensures.steps in
    record {
      passed = one_more_passed c.args.world.now c.loop-names.world c.loop-names.invariant.later c.args.atom.now c.args.constants.now c.args.goal.now c.args.rest.now c.requires.ready c.args.name.now c.args.clause.now c.requires.clause
          c.args.choices.now c.loop-names.names-index c.names-item.result c.loop-names-test.true c.requires.choices c.as_slice-names.result.now (c.as_slice-names.ensures ∙ c.names-item.is)
          c.args.goals.now.items c.loop-names.goals.items c.loop-names.invariant.passed c.try_choice.new.world c.try_choice.new.goals.items (c.try_choice.ensures.passed (c.in_ok-place.was ∙ ap (λ q. Ok q) c.in_default.is));
      later = later_on c.args.world.now c.loop-names.world c.try_choice.new.world c.loop-names.invariant.later c.try_choice.ensures.later;
      counted = omega (arith, before, more);
    }
