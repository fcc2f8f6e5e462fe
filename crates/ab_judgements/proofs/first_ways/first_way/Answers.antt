use Rattle.std.proofs.Common.{◌≡◌, Some, sym, subst}
use Rattle.ab_norm.proofs.Frame.{if_ok}
use Rattle.ab_term.proofs.Lists.{Contains-here}
use Rattle.ab_unify.specs.Problem.{cells_read}
use Rattle.ab_formulas.specs.Sequents.{formulas}
use Rattle.ab_logic.specs.SequentReadings.{sequent_of}
use Rattle.ab_logic.specs.Worlds.{declarations_of}
use Rattle.ab_theory.specs.Subjects.{an_atom, subject_of}
use Rattle.ab_theory.proofs.SubjectParts.{subject_is}
use Rattle.ab_alternatives.specs.AtomReadings.{defined_read}
use Rattle.ab_judgements.specs.SubjectAnswers.{FindsWay}
use Rattle.ab_judgements.specs.SubjectReadings.{subject_read, HoldsSubject, HasRules}
use Rattle.ab_judgements.proofs.SubjectForms.{formula_in, judgement_reads, judgement_typed, finds_way}
use Rattle.ab_judgements.proofs.first_ways.first_way.Goals as goal

pub first_unfolding-requires-clause-conclusion : goal.first_unfolding-requires-clause-conclusion
first_unfolding-requires-clause-conclusion g c =
    let w = c.args.world.now in
    let F = (sequent_of w c.args.goal.now).conclusion in
    subject_is (declarations_of w) F (an_atom (defined_read w c.in-Atom.atom)) (sym (subst (λ x. subject_read w x ≡ subject_of (declarations_of w) F) c.in-Atom.is c.requires.conclusion))

pub first_rule-requires-clause-typed : goal.first_rule-requires-clause-typed
first_rule-requires-clause-typed g c =
    let w = c.args.world.now in
    let s = sequent_of w c.args.goal.now in
    judgement_typed w c.requires.world c.in-Judgement.judgement (subst (HoldsSubject w) c.in-Judgement.is c.requires.subject) (subst (HasRules w) c.in-Judgement.is c.requires.rules) s.conclusion
    (formula_in w c.args.goal.now c.requires.sequent s.conclusion (Contains-here s.conclusion (formulas s.hypotheses))) (subst (λ x. subject_read w x ≡ subject_of (declarations_of w) s.conclusion) c.in-Judgement.is c.requires.conclusion)

pub returns-in-Atom-clause-found : goal.returns-in-Atom-clause-found
returns-in-Atom-clause-found g c =
    let w = c.args.world.now in
    let s = sequent_of w c.args.goal.now in
    let d = defined_read w c.in-Atom.atom in
    if_ok c.first_unfolding.result
    (λ found f x e.
    let reads : Some (an_atom d) ≡ Some x = subst (λ q. subject_read w q ≡ Some x) c.in-Atom.is e in
    let same : an_atom d ≡ x = cc in
    subst (λ y. FindsWay (cells_read w.types w.store) s y found) same (finds_way (cells_read w.types w.store) s d found f))
    c.first_unfolding.ensures.found

pub returns-in-Judgement-clause-found : goal.returns-in-Judgement-clause-found
returns-in-Judgement-clause-found g c =
    let w = c.args.world.now in
    let s = sequent_of w c.args.goal.now in
    if_ok c.first_rule.result
    (λ found f x e.
    let reads = judgement_reads w c.requires.world c.in-Judgement.judgement x (subst (λ q. subject_read w q ≡ Some x) c.in-Judgement.is e) in
    subst (λ y. FindsWay (cells_read w.types w.store) s y found) reads.2 (f s reads.0 reads.1))
    c.first_rule.ensures.found
