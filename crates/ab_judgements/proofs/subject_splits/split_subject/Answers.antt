use Rattle.std.proofs.Common.{◌≡◌, Some, map, subst}
use Rattle.ab_unify.specs.Problem.{cells_read}
use Rattle.ab_formulas.specs.NewNames.{IsNamedFor}
use Rattle.ab_logic.specs.SequentReadings.{sequent_of}
use Rattle.ab_logic.specs.Worlds.{declarations_of}
use Rattle.ab_theory.specs.Splits.{Split, IsUnsplit}
use Rattle.ab_theory.specs.Subjects.{an_atom, cases_by, subject_of}
use Rattle.ab_alternatives.specs.AtomReadings.{defined_read}
use Rattle.ab_judgements.specs.SubjectReadings.{subject_read, HoldsSubject, HasRules}
use Rattle.ab_judgements.proofs.SubjectForms.{same_variables, formula_in, atom_typed, judgement_reads, judgement_typed}
use Rattle.ab_judgements.proofs.subject_splits.split_subject.Goals as goal

pub split-requires-clause-typed : goal.split-requires-clause-typed
split-requires-clause-typed g c =
    let w = c.args.world.now in
    let of = c.requires.of_goal in
    atom_typed w of.0 (formula_in w c.args.goal.now c.requires.sequent of.0 of.1) (defined_read w c.in-Atom.atom) (subst (λ x. subject_read w x ≡ subject_of (declarations_of w) of.0) c.in-Atom.is of.2)

pub split_judgement-requires-clause-typed : goal.split_judgement-requires-clause-typed
split_judgement-requires-clause-typed g c =
    let w = c.args.world.now in
    let of = c.requires.of_goal in
    judgement_typed w c.requires.world c.in-Judgement.judgement (subst (HoldsSubject w) c.in-Judgement.is c.requires.subject) (subst (HasRules w) c.in-Judgement.is c.requires.rules) of.0
    (formula_in w c.args.goal.now c.requires.sequent of.0 of.1) (subst (λ x. subject_read w x ≡ subject_of (declarations_of w) of.0) c.in-Judgement.is of.2)

pub split_judgement-requires-clause-same : goal.split_judgement-requires-clause-same
split_judgement-requires-clause-same g c = same_variables c.args.world.now c.args.rest.now.variables c.args.goal.now.variables c.requires.same

pub returns-in-Atom-clause-goals : goal.returns-in-Atom-clause-goals
returns-in-Atom-clause-goals g c = λ x gs e r.
    let w = c.args.world.now in
    let v = c.split.new.world in
    let reads : Some (an_atom (defined_read w c.in-Atom.atom)) ≡ Some x = subst (λ q. subject_read w q ≡ Some x) c.in-Atom.is e in
    let same : an_atom (defined_read w c.in-Atom.atom) ≡ x = cc in
    subst (λ y. Split (IsNamedFor (declarations_of w)) (cells_read w.types w.store) (cases_by (sequent_of w c.args.goal.now) (sequent_of w c.args.rest.now) c.args.name.now y) (map (sequent_of v) gs.items)) same (c.split.ensures.goals gs r)

pub returns-in-Atom-clause-stuck : goal.returns-in-Atom-clause-stuck
returns-in-Atom-clause-stuck g c = λ x i e r.
    let w = c.args.world.now in
    let reads : Some (an_atom (defined_read w c.in-Atom.atom)) ≡ Some x = subst (λ q. subject_read w q ≡ Some x) c.in-Atom.is e in
    let same : an_atom (defined_read w c.in-Atom.atom) ≡ x = cc in
    subst (λ y. IsUnsplit (IsNamedFor (declarations_of w)) (cells_read w.types w.store) (cases_by (sequent_of w c.args.goal.now) (sequent_of w c.args.rest.now) c.args.name.now y) i) same (c.split.ensures.stuck i r)

pub returns-in-Judgement-clause-goals : goal.returns-in-Judgement-clause-goals
returns-in-Judgement-clause-goals g c = λ x gs e r.
    let w = c.args.world.now in
    let v = c.split_judgement.new.world in
    let reads = judgement_reads w c.requires.world c.in-Judgement.judgement x (subst (λ q. subject_read w q ≡ Some x) c.in-Judgement.is e) in
    subst (λ y. Split (IsNamedFor (declarations_of w)) (cells_read w.types w.store) (cases_by (sequent_of w c.args.goal.now) (sequent_of w c.args.rest.now) c.args.name.now y) (map (sequent_of v) gs.items)) reads.2
    (c.split_judgement.ensures.goals reads.0 gs reads.1 r)

pub returns-in-Judgement-clause-stuck : goal.returns-in-Judgement-clause-stuck
returns-in-Judgement-clause-stuck g c = λ x i e r.
    let w = c.args.world.now in
    let reads = judgement_reads w c.requires.world c.in-Judgement.judgement x (subst (λ q. subject_read w q ≡ Some x) c.in-Judgement.is e) in
    subst (λ y. IsUnsplit (IsNamedFor (declarations_of w)) (cells_read w.types w.store) (cases_by (sequent_of w c.args.goal.now) (sequent_of w c.args.rest.now) c.args.name.now y) i) reads.2
    (c.split_judgement.ensures.stuck reads.0 i reads.1 r)
