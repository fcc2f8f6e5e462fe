use Rattle.std.proofs.Common.{◌≡◌, ◌+◌, [], List, map, take, Ok, Some, sym, ◌∙◌, ap, subst, arith, take_all}
use Rattle.std.proofs.lemmas.List.Elements.{All-nil}
use Rattle.ab_unify.specs.Problem.{cells_read}
use Rattle.ab_formulas.specs.NewNames.{IsNamedFor}
use Rattle.ab_logic.specs.SequentReadings.{sequent_of, HoldsSequent}
use Rattle.ab_logic.specs.Worlds.{declarations_of}
use Rattle.ab_logic.specs.declared.sequent.Sequent.{Sequent as Kept}
use Rattle.ab_theory.specs.JudgementCases.{judgement_case}
use Rattle.ab_theory.specs.Splits.{Split}
use Rattle.ab_alternatives.specs.CaseSteps.{ArePassed}
use Rattle.ab_alternatives.proofs.Passed.{later_not, later_on, passed_none}
use Rattle.ab_judgement_forms.specs.JudgementReadings.{judgement_read}
use Rattle.ab_judgements.specs.RuleSteps.{cases_at}
use Rattle.ab_judgements.specs.RuleWalks.{slots}
use Rattle.ab_judgements.proofs.LaterRules.{splitting}
use Rattle.ab_judgements.proofs.NextPlace.{still_splitting, place_passed, place_stopped, unsplit_there, split_there}
use Rattle.ab_judgements.proofs.rule_cases.split_judgement.Goals as goal

pub loop-place-init : goal.loop-place-init
loop-place-init g c =
    let w = c.args.world.now in
    let u = c.with_rules.new.world in
    record {
      ready = splitting w u c.with_rules.ensures.later c.args.goal.now c.args.rest.now c.requires.goal c.requires.rest c.in_ok-ruled.ruled c.in_ok-ruled.ensures.ruled c.requires.formulas c.requires.same;
      passed = subst (λ (l : List Kept). ArePassed u [] [] u l) (sym c.new-goals.ensures.items) (passed_none u [] (All-nil (HoldsSequent u)));
      later = later_not u c.in_ok-ruled.ensures.ruled.world;
      counted = omega arith;
    }

pub try_place-requires-clause-ready : goal.try_place-requires-clause-ready
try_place-requires-clause-ready g c =
    let i = c.loop-place.invariant in
    still_splitting c.with_rules.new.world c.loop-place.world i.later c.in_ok-ruled.ruled c.args.goal.now c.args.rest.now i.ready c.args.name.now

pub returns-in_err-equation-clause-later : goal.returns-in_err-equation-clause-later
returns-in_err-equation-clause-later g c =
    let u = c.with_rules.new.world in
    let y = c.try_place.new.world in
    later_on c.args.world.now u y c.with_rules.ensures.later (later_on u c.loop-place.world y c.loop-place.invariant.later c.try_place.ensures.later)

pub returns-in-Some-clause-later : goal.returns-in-Some-clause-later
returns-in-Some-clause-later g c =
    let u = c.with_rules.new.world in
    let y = c.try_place.new.world in
    later_on c.args.world.now u y c.with_rules.ensures.later (later_on u c.loop-place.world y c.loop-place.invariant.later c.try_place.ensures.later)

pub returns-in-Some-clause-stuck : goal.returns-in-Some-clause-stuck
returns-in-Some-clause-stuck g c = λ rs n listed e.
    let w = c.args.world.now in
    let u = c.with_rules.new.world in
    let i = c.loop-place.invariant in
    let x = c.in_ok-ruled.ruled in
    let before = c.loop-place-test.true in
    let last = c.last_place-last.ensures in
    let place : c.in-Some.equation ≡ n = cc in
    unsplit_there w u c.with_rules.ensures.later c.with_rules.ensures.cells c.args.judgement.now c.requires.judgement c.args.goal.now c.args.rest.now c.requires.goal c.requires.rest c.args.name.now rs listed x c.in_ok-ruled.ensures.judgement c.in_ok-ruled.ensures.ruled n
    (place_stopped u c.loop-place.world i.later x c.args.goal.now c.args.rest.now i.ready c.args.name.now c.loop-place.place (omega (arith, before, last)) [] c.loop-place.goals.items i.passed n
    (c.in_ok-equation.ensures.stopped n (ap (λ q. Ok q) c.in-Some.is ∙ ap (λ k. Ok (Some k)) place)))

pub loop-place-preserved : goal.loop-place-preserved
loop-place-preserved g c =
    let u = c.with_rules.new.world in
    let i = c.loop-place.invariant in
    let x = c.in_ok-ruled.ruled in
    let y = c.try_place.new.world in
    let before = c.loop-place-test.true in
    let last = c.last_place-last.ensures in
    let counted = i.counted in
    let more = c.try_place.ensures.steps in
    record {
      ready = i.ready;
      passed = place_passed u c.loop-place.world i.later x c.args.goal.now c.args.rest.now i.ready c.args.name.now c.loop-place.place (omega (arith, before, last)) [] c.loop-place.goals.items i.passed y c.try_place.new.goals.items
          (c.in_ok-equation.ensures.passed (ap (λ q. Ok q) c.in_default.is));
      later = later_on u c.loop-place.world y i.later c.try_place.ensures.later;
      counted = omega (arith, counted, more);
    }

pub try_place-requires-2-clause-ready : goal.try_place-requires-2-clause-ready
try_place-requires-2-clause-ready g c =
    let i = c.loop-place.invariant in
    still_splitting c.with_rules.new.world c.loop-place.world i.later c.in_ok-ruled.ruled c.args.goal.now c.args.rest.now i.ready c.args.name.now

pub returns-in_err-equation-2-clause-later : goal.returns-in_err-equation-2-clause-later
returns-in_err-equation-2-clause-later g c =
    let u = c.with_rules.new.world in
    let y = c.try_place-2.new.world in
    later_on c.args.world.now u y c.with_rules.ensures.later (later_on u c.loop-place.world y c.loop-place.invariant.later c.try_place-2.ensures.later)

pub returns-in-Some-2-clause-later : goal.returns-in-Some-2-clause-later
returns-in-Some-2-clause-later g c =
    let u = c.with_rules.new.world in
    let y = c.try_place-2.new.world in
    later_on c.args.world.now u y c.with_rules.ensures.later (later_on u c.loop-place.world y c.loop-place.invariant.later c.try_place-2.ensures.later)

pub returns-clause-later : goal.returns-clause-later
returns-clause-later g c =
    let u = c.with_rules.new.world in
    let y = c.try_place-2.new.world in
    later_on c.args.world.now u y c.with_rules.ensures.later (later_on u c.loop-place.world y c.loop-place.invariant.later c.try_place-2.ensures.later)

pub returns-in-Some-2-clause-stuck : goal.returns-in-Some-2-clause-stuck
returns-in-Some-2-clause-stuck g c = λ rs n listed e.
    let w = c.args.world.now in
    let u = c.with_rules.new.world in
    let i = c.loop-place.invariant in
    let x = c.in_ok-ruled.ruled in
    let s = slots u x.judgement x.source in
    let k = c.last_place-last.result in
    let least = c.loop-place-test.false in
    let most = c.loop-place.auto.place-end in
    let end : c.loop-place.place ≡ k = omega (arith, least, most) in
    let last = c.last_place-last.ensures in
    let place : c.in-Some-2.equation ≡ n = cc in
    unsplit_there w u c.with_rules.ensures.later c.with_rules.ensures.cells c.args.judgement.now c.requires.judgement c.args.goal.now c.args.rest.now c.requires.goal c.requires.rest c.args.name.now rs listed x c.in_ok-ruled.ensures.judgement c.in_ok-ruled.ensures.ruled n
    (place_stopped u c.loop-place.world i.later x c.args.goal.now c.args.rest.now i.ready c.args.name.now k (omega (arith, last)) [] c.loop-place.goals.items
    (subst (λ q. ArePassed u [] (cases_at u x c.args.goal.now c.args.rest.now c.args.name.now (take q s)) c.loop-place.world c.loop-place.goals.items) end i.passed) n
    (c.in_ok-equation-2.ensures.stopped n (ap (λ q. Ok q) c.in-Some-2.is ∙ ap (λ q. Ok (Some q)) place)))

pub returns-clause-goals : goal.returns-clause-goals
returns-clause-goals g c = λ rs gs listed e.
    let w = c.args.world.now in
    let u = c.with_rules.new.world in
    let i = c.loop-place.invariant in
    let x = c.in_ok-ruled.ruled in
    let y = c.try_place-2.new.world in
    let s = slots u x.judgement x.source in
    let k = c.last_place-last.result in
    let least = c.loop-place-test.false in
    let most = c.loop-place.auto.place-end in
    let end : c.loop-place.place ≡ k = omega (arith, least, most) in
    let last = c.last_place-last.ensures in
    let one : c.try_place-2.new.goals ≡ gs = cc in
    let passed = place_passed u c.loop-place.world i.later x c.args.goal.now c.args.rest.now i.ready c.args.name.now k (omega (arith, last)) [] c.loop-place.goals.items
    (subst (λ q. ArePassed u [] (cases_at u x c.args.goal.now c.args.rest.now c.args.name.now (take q s)) c.loop-place.world c.loop-place.goals.items) end i.passed) y c.try_place-2.new.goals.items
    (c.in_ok-equation-2.ensures.passed (ap (λ q. Ok q) c.in_default-2.is)) in
    let whole = take_all (k + 1) s (omega (arith, last)) in
    subst (λ q. Split (IsNamedFor (declarations_of w)) (cells_read w.types w.store) (map (judgement_case (sequent_of w c.args.goal.now) (sequent_of w c.args.rest.now) c.args.name.now (judgement_read w c.args.judgement.now)) rs) (map (sequent_of y) q.items)) one
    (split_there w u c.with_rules.ensures.later c.with_rules.ensures.cells c.args.judgement.now c.requires.judgement c.args.goal.now c.args.rest.now c.requires.goal c.requires.rest c.args.name.now rs listed x c.in_ok-ruled.ensures.judgement c.in_ok-ruled.ensures.ruled
    y c.try_place-2.new.goals.items (subst (λ l. ArePassed u [] (cases_at u x c.args.goal.now c.args.rest.now c.args.name.now l) y c.try_place-2.new.goals.items) whole passed))
