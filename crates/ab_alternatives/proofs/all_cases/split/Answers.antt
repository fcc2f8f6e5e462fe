use Rattle.std.proofs.Common.{◌≡◌, List, [], map, Ok, Some, arith, sym, ◌∙◌, ap, subst, take_all, append-nil}
use Rattle.std.specs.List.{All}
use Rattle.std.proofs.lemmas.List.Elements.{All-nil, All-get_or}
use Rattle.ab_unify.specs.Problem.{cells_read}
use Rattle.ab_unifiers.specs.Choices.{for_each}
use Rattle.ab_formulas.specs.CaseClauses as kept
use Rattle.ab_typing.specs.DefinitionReadings.{clause_of}
use Rattle.ab_typing.specs.declared.definitions.ClauseTerm.{ClauseTerm}
use Rattle.ab_formulas.specs.NewNames.{IsNamedFor}
use Rattle.ab_logic.specs.Worlds.{IsKeptClause, declarations_of}
use Rattle.ab_logic.specs.SequentReadings.{HoldsSequent, sequent_of}
use Rattle.ab_logic.specs.declared.sequent.Sequent.{Sequent as Kept}
use Rattle.ab_theory.specs.Splits.{CaseOver, Split, IsUnsplit}
use Rattle.ab_theory.specs.Analysis.{cases_of}
use Rattle.ab_alternatives.specs.AtomReadings.{defined_read}
use Rattle.ab_alternatives.specs.CaseSteps.{clause_cases, ArePassed}
use Rattle.ab_alternatives.proofs.Passed.{later_not, later_on, passed_none, all_passed}
use Rattle.ab_alternatives.proofs.Later.{clause_kept, still_ready}
use Rattle.ab_alternatives.proofs.NextChoice.{all_cases, same_variables, one_clause_passed, clause_stopped}
use Rattle.ab_alternatives.proofs.all_cases.split.Goals as goal

pub loop-clause-init : goal.loop-clause-init
loop-clause-init g c =
    let w = c.args.world.now in
    record {
      ready = record {
        world = c.requires.world;
        goal = c.requires.goal;
        sequent = c.requires.sequent;
        rest = c.requires.rest;
        formulas = c.requires.formulas;
        same = same_variables w c.args.rest.now.variables c.args.goal.now.variables c.requires.same;
        atom = c.requires.atom;
        typed = c.requires.typed;
        of_atom = c.in_ok-constants.ensures.of_atom;
        of_atom_held = c.in_ok-constants.ensures.of_atom_held;
        of_goal = c.in_ok-constants.ensures.of_goal;
        of_goal_held = c.in_ok-constants.ensures.of_goal_held;
      };
      passed = subst (λ (l : List Kept). ArePassed w [] [] w l) (sym c.new-goals.ensures.items) (passed_none w [] (All-nil (HoldsSequent w)));
      later = later_not w c.requires.world;
      counted = omega arith;
    }

pub try_clause-requires-clause-ready : goal.try_clause-requires-clause-ready
try_clause-requires-clause-ready g c =
    still_ready c.args.world.now c.loop-clause.world c.loop-clause.invariant.later c.args.atom.now c.in_ok-constants.constants c.args.goal.now c.args.rest.now c.loop-clause.invariant.ready

pub try_clause-requires-clause-clause : goal.try_clause-requires-clause-clause
try_clause-requires-clause-clause g c =
    let w = c.args.world.now in
    let cs = c.as_slice-clause-items.result.now in
    let held : All (IsKeptClause w.types w.store) cs = subst (All (IsKeptClause w.types w.store)) (sym c.as_slice-clause-items.ensures) c.requires.atom.block.clauses in
    clause_kept w c.loop-clause.world c.loop-clause.invariant.later c.clause-item.result
    (subst (IsKeptClause w.types w.store) (sym c.clause-item.is) (All-get_or (IsKeptClause w.types w.store) cs c.loop-clause.clause-index c.clause-item.result c.loop-clause-test.true held))

pub try_clause-requires-clause-goals : goal.try_clause-requires-clause-goals
try_clause-requires-clause-goals g c = c.loop-clause.invariant.passed.held

pub returns-in_err-place-clause-grows : goal.returns-in_err-place-clause-grows
returns-in_err-place-clause-grows g c = (later_on c.args.world.now c.loop-clause.world c.try_clause.new.world c.loop-clause.invariant.later c.try_clause.ensures.later).grows

pub returns-in_err-place-clause-declared : goal.returns-in_err-place-clause-declared
returns-in_err-place-clause-declared g c = (later_on c.args.world.now c.loop-clause.world c.try_clause.new.world c.loop-clause.invariant.later c.try_clause.ensures.later).declared

pub returns-in-Some-clause-grows : goal.returns-in-Some-clause-grows
returns-in-Some-clause-grows g c = (later_on c.args.world.now c.loop-clause.world c.try_clause.new.world c.loop-clause.invariant.later c.try_clause.ensures.later).grows

pub returns-in-Some-clause-declared : goal.returns-in-Some-clause-declared
returns-in-Some-clause-declared g c = (later_on c.args.world.now c.loop-clause.world c.try_clause.new.world c.loop-clause.invariant.later c.try_clause.ensures.later).declared

pub returns-in-Some-clause-stuck : goal.returns-in-Some-clause-stuck
returns-in-Some-clause-stuck g c = λ i e.
    let w = c.args.world.now in
    let cs = c.as_slice-clause-items.result.now in
    let place : c.in-Some.place ≡ i = cc in
    let held : All (IsKeptClause w.types w.store) cs = subst (All (IsKeptClause w.types w.store)) (sym c.as_slice-clause-items.ensures) c.requires.atom.block.clauses in
    let by : ClauseTerm → List CaseOver = λ x. clause_cases (sequent_of w c.args.goal.now) (sequent_of w c.args.rest.now) c.args.name.now (defined_read w c.args.atom.now) (kept.case_of (clause_of w.types w.store x)) in
    let stopped = clause_stopped w c.loop-clause.world c.loop-clause.invariant.later c.args.atom.now c.in_ok-constants.constants c.args.goal.now c.args.rest.now c.loop-clause.invariant.ready c.args.name.now
    cs c.loop-clause.clause-index c.clause-item.result c.loop-clause-test.true held c.clause-item.result c.clause-item.is [] c.loop-clause.goals.items c.loop-clause.invariant.passed i
    (c.try_clause.ensures.stopped i (c.in_ok-place.was ∙ ap (λ q. Ok q) c.in-Some.is ∙ ap (λ n. Ok (Some n)) place)) [] in
    let all : cases_of (sequent_of w c.args.goal.now) (sequent_of w c.args.rest.now) c.args.name.now (defined_read w c.args.atom.now) ≡ for_each by cs =
    all_cases w c.args.atom.now c.args.goal.now c.args.rest.now c.args.name.now ∙ ap (for_each by) (sym c.as_slice-clause-items.ensures) in
    subst (λ (l : List CaseOver). IsUnsplit (IsNamedFor (declarations_of w)) (cells_read w.types w.store) l i) (append-nil (for_each by cs) ∙ sym all) stopped

pub loop-clause-preserved : goal.loop-clause-preserved
loop-clause-preserved g c =
    let w = c.args.world.now in
    let cs = c.as_slice-clause-items.result.now in
    let before = c.loop-clause.invariant.counted in
    let more = c.try_clause.ensures.steps in
    let held : All (IsKeptClause w.types w.store) cs = subst (All (IsKeptClause w.types w.store)) (sym c.as_slice-clause-items.ensures) c.requires.atom.block.clauses in
    record {
      ready = c.loop-clause.invariant.ready;
      passed = one_clause_passed w c.loop-clause.world c.loop-clause.invariant.later c.args.atom.now c.in_ok-constants.constants c.args.goal.now c.args.rest.now c.loop-clause.invariant.ready c.args.name.now
          cs c.loop-clause.clause-index c.clause-item.result c.loop-clause-test.true held c.clause-item.result c.clause-item.is [] c.loop-clause.goals.items c.loop-clause.invariant.passed
          c.try_clause.new.world c.try_clause.new.goals.items (c.try_clause.ensures.passed (c.in_ok-place.was ∙ ap (λ q. Ok q) c.in_default.is));
      later = later_on w c.loop-clause.world c.try_clause.new.world c.loop-clause.invariant.later c.try_clause.ensures.later;
      counted = omega (arith, before, more);
    }

pub returns-clause-goals : goal.returns-clause-goals
returns-clause-goals g c = λ gs e.
    let w = c.args.world.now in
    let v = c.loop-clause.world in
    let cs = c.as_slice-clause-items.result.now in
    let done = c.loop-clause-test.false in
    let one : c.loop-clause.goals ≡ gs = cc in
    let by : ClauseTerm → List CaseOver = λ x. clause_cases (sequent_of w c.args.goal.now) (sequent_of w c.args.rest.now) c.args.name.now (defined_read w c.args.atom.now) (kept.case_of (clause_of w.types w.store x)) in
    let all : cases_of (sequent_of w c.args.goal.now) (sequent_of w c.args.rest.now) c.args.name.now (defined_read w c.args.atom.now) ≡ for_each by cs =
    all_cases w c.args.atom.now c.args.goal.now c.args.rest.now c.args.name.now ∙ ap (for_each by) (sym c.as_slice-clause-items.ensures) in
    let whole = take_all c.loop-clause.clause-index cs (omega (arith, done)) in
    let passed : ArePassed w [] (for_each by cs) v c.loop-clause.goals.items = subst (λ (l : List ClauseTerm). ArePassed w [] (for_each by l) v c.loop-clause.goals.items) whole c.loop-clause.invariant.passed in
    subst (λ q. Split (IsNamedFor (declarations_of w)) (cells_read w.types w.store) (cases_of (sequent_of w c.args.goal.now) (sequent_of w c.args.rest.now) c.args.name.now (defined_read w c.args.atom.now)) (map (sequent_of v) q.items)) one
    (subst (λ (l : List CaseOver). Split (IsNamedFor (declarations_of w)) (cells_read w.types w.store) l (map (sequent_of v) c.loop-clause.goals.items)) (sym all) (all_passed w v (for_each by cs) c.loop-clause.goals.items passed))

pub returns-clause-held : goal.returns-clause-held
returns-clause-held g c = λ gs e.
    let one : c.loop-clause.goals ≡ gs = cc in
    subst (λ q. All (HoldsSequent c.loop-clause.world) q.items) one c.loop-clause.invariant.passed.held

pub returns-clause-grows : goal.returns-clause-grows
returns-clause-grows g c = c.loop-clause.invariant.later.grows

pub returns-clause-declared : goal.returns-clause-declared
returns-clause-declared g c = c.loop-clause.invariant.later.declared
