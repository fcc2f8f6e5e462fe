use Rattle.std.specs.Prelude.{IsTrue}
use Rattle.std.proofs.Common.{rules, ◌≡◌, true, false, sym, ◌∙◌, subst}
use Rattle.ab_unify.specs.Problem.{cells_read}
use Rattle.ab_logic.specs.SequentReadings.{sequent_of}
use Rattle.ab_formulas.specs.BodyMarks.{MayBeUnfolded}
use Rattle.ab_theory.specs.Subjects.{sign_of}
use Rattle.ab_steps.specs.ab_kernel.specs.ab_judgements.specs.SubjectAnswers.{FindsWay}
use Rattle.ab_steps.specs.ab_kernel.specs.ab_judgements.specs.ab_alternatives.specs.declared.first_choice.Found.TheVariants.{Closed, Open, Stuck, Nothing}
use Rattle.ab_steps.specs.ab_kernel.specs.ab_judgements.proofs.SubjectsRead.{IsReadAs, read_as}
use Rattle.ab_steps.specs.declared.fault.ProofCommandFault.TheVariants.{Mark, NoMatch, Unresolved}
use Rattle.ab_conclusion.proofs.UnfoldingGoals.{seen_is_sequent, unfolds_later, seen_marked, seen_nothing, seen_stuck, seen_open}
use Rattle.ab_conclusion.proofs.unfoldings.find_way.Goals as goal

pub first_way-requires-clause-sequent : goal.first_way-requires-clause-sequent
first_way-requires-clause-sequent g c =
    seen_is_sequent c.args.world.now c.args.proof.now c.first_goal-goal.result.now c.requires.world c.requires.proof c.requires.open c.first_goal-goal.ensures.reads

pub returns-then-not-may_be_unfolded-clause-refused : goal.returns-then-not-may_be_unfolded-clause-refused
returns-then-not-may_be_unfolded-clause-refused g c fault e l s rest goals =
    let w = c.args.world.now in
    let x = c.first_goal-goal.result.now in
    let k = read_as w (sequent_of w x).conclusion c.in_ok-subject.field-0 c.in_ok-subject.ensures.reads c.in-Some.subject c.in-Some.is c.in_ok-subject.ensures.rules in
    let not : MayBeUnfolded (sign_of k.plain) → ⊥ = λ m.
    let yes : IsTrue c.may_be_unfolded.result = c.may_be_unfolded.ensures.1 (subst MayBeUnfolded (sym (c.sign_of.ensures w k.plain k.reads)) m) in
    let clash : false ≡ true = sym c.if-not-may_be_unfolded.true ∙ yes in
    cc in
    let same : Mark ≡ fault = cc in
    seen_marked w x s (c.first_goal-goal.ensures.reads s rest goals) l k.plain k.is not fault same

pub returns-in-Closed-clause-found : goal.returns-in-Closed-clause-found
returns-in-Closed-clause-found g c =
    let w = c.args.world.now in
    let x = c.first_goal-goal.result.now in
    let k = read_as w (sequent_of w x).conclusion c.in_ok-subject.field-0 c.in_ok-subject.ensures.reads c.in-Some.subject c.in-Some.is c.in_ok-subject.ensures.rules in
    let yes : IsTrue c.may_be_unfolded.result = search rules in
    let may = subst MayBeUnfolded (c.sign_of.ensures w k.plain k.reads) (c.may_be_unfolded.ensures.0 yes) in
    let finds : FindsWay (cells_read w.types w.store) (sequent_of w x) k.plain (Closed c.in-Closed.place) = subst (FindsWay (cells_read w.types w.store) (sequent_of w x) k.plain) c.in-Closed.is (c.in_ok-place.ensures.found k.plain k.reads) in
    unfolds_later w c.first_way.new.world c.args.proof.now c.first_way.ensures.grows c.requires.proof c.first_way.ensures.declared c.first_way.ensures.cells
    x c.in-Closed.place k.plain c.first_goal-goal.ensures.reads c.first_goal-goal.ensures.held k.is may finds

pub returns-in-Open-clause-refused : goal.returns-in-Open-clause-refused
returns-in-Open-clause-refused g c fault e l s rest goals =
    let w = c.args.world.now in
    let x = c.first_goal-goal.result.now in
    let k = read_as w (sequent_of w x).conclusion c.in_ok-subject.field-0 c.in_ok-subject.ensures.reads c.in-Some.subject c.in-Some.is c.in_ok-subject.ensures.rules in
    let yes : IsTrue c.may_be_unfolded.result = search rules in
    let may = subst MayBeUnfolded (c.sign_of.ensures w k.plain k.reads) (c.may_be_unfolded.ensures.0 yes) in
    let name = c.in-Open.name in
    let finds : FindsWay (cells_read w.types w.store) (sequent_of w x) k.plain (Open c.in-Open.field-0 c.in-Open.name) = subst (FindsWay (cells_read w.types w.store) (sequent_of w x) k.plain) c.in-Open.is (c.in_ok-place.ensures.found k.plain k.reads) in
    let same : Unresolved name ≡ fault = cc in
    seen_open w x s (c.first_goal-goal.ensures.reads s rest goals) l c.first_goal-goal.ensures.held k.plain k.is may c.in-Open.field-0 name finds fault same

pub returns-in-Stuck-clause-refused : goal.returns-in-Stuck-clause-refused
returns-in-Stuck-clause-refused g c fault e l s rest goals =
    let w = c.args.world.now in
    let x = c.first_goal-goal.result.now in
    let k = read_as w (sequent_of w x).conclusion c.in_ok-subject.field-0 c.in_ok-subject.ensures.reads c.in-Some.subject c.in-Some.is c.in_ok-subject.ensures.rules in
    let yes : IsTrue c.may_be_unfolded.result = search rules in
    let may = subst MayBeUnfolded (c.sign_of.ensures w k.plain k.reads) (c.may_be_unfolded.ensures.0 yes) in
    let i = c.in-Stuck.equation in
    let finds : FindsWay (cells_read w.types w.store) (sequent_of w x) k.plain (Stuck c.in-Stuck.field-0 c.in-Stuck.equation) = subst (FindsWay (cells_read w.types w.store) (sequent_of w x) k.plain) c.in-Stuck.is (c.in_ok-place.ensures.found k.plain k.reads) in
    let same : c.not_pattern.result ≡ fault = cc in
    seen_stuck w x s (c.first_goal-goal.ensures.reads s rest goals) l c.first_goal-goal.ensures.held k.plain k.is may c.in-Stuck.field-0 i finds
    c.not_pattern.result fault c.not_pattern.ensures same

pub returns-clause-refused : goal.returns-clause-refused
returns-clause-refused g c fault e l s rest goals =
    let w = c.args.world.now in
    let x = c.first_goal-goal.result.now in
    let k = read_as w (sequent_of w x).conclusion c.in_ok-subject.field-0 c.in_ok-subject.ensures.reads c.in-Some.subject c.in-Some.is c.in_ok-subject.ensures.rules in
    let yes : IsTrue c.may_be_unfolded.result = search rules in
    let may = subst MayBeUnfolded (c.sign_of.ensures w k.plain k.reads) (c.may_be_unfolded.ensures.0 yes) in
    let finds : FindsWay (cells_read w.types w.store) (sequent_of w x) k.plain (Nothing) = subst (FindsWay (cells_read w.types w.store) (sequent_of w x) k.plain) c.in-Nothing.is (c.in_ok-place.ensures.found k.plain k.reads) in
    let same : NoMatch ≡ fault = cc in
    seen_nothing w x s (c.first_goal-goal.ensures.reads s rest goals) l c.first_goal-goal.ensures.held k.plain k.is may finds fault same
