use Rattle.std.specs.Prelude.{IsSome}
use Rattle.std.proofs.Common.{◌≡◌, Option, Some, None, refl, sym, ◌∙◌, ap, subst}
use Rattle.ab_norm.proofs.Frame.{if_ok}
use Rattle.ab_logic.specs.Worlds.{read, declarations_of}
use Rattle.ab_theory.specs.Subjects.{an_atom, a_judgement, subject_of}
use Rattle.ab_alternatives.specs.AtomReadings.{defined_read}
use Rattle.ab_judgements.specs.ab_judgement_forms.specs.JudgementReadings.{judgement_read}
use Rattle.ab_judgements.specs.SubjectReadings.{subject_read, HoldsSubject, HasRules}
use Rattle.ab_judgements.proofs.SubjectForms.{atom_typed, judgement_reads, judgement_typed}
use Rattle.ab_analyses.proofs.subjects.subject_alternatives.Goals as goal

there_is : {X : Type 0} (o : Option X) → IsSome o → (x : X) × (o ≡ Some x)
there_is None h = absurd (cc)
there_is (Some x) h = (x, refl)

pub atom_alternatives-requires-clause-typed : goal.atom_alternatives-requires-clause-typed
atom_alternatives-requires-clause-typed g c =
    let w = c.args.world.now in
    let F = read w c.args.formula in
    atom_typed w F c.requires.formula (defined_read w c.in-Atom.atom) (subst (λ x. subject_read w x ≡ subject_of (declarations_of w) F) c.in-Atom.is c.requires.of_formula)

pub judgement_alternatives-requires-clause-typed : goal.judgement_alternatives-requires-clause-typed
judgement_alternatives-requires-clause-typed g c =
    let w = c.args.world.now in
    let F = read w c.args.formula in
    judgement_typed w c.requires.world c.in-Judgement.judgement (subst (HoldsSubject w) c.in-Judgement.is c.requires.subject) (subst (HasRules w) c.in-Judgement.is c.requires.rules) F
    c.requires.formula (subst (λ x. subject_read w x ≡ subject_of (declarations_of w) F) c.in-Judgement.is c.requires.of_formula)

pub returns-in-Atom-clause-list : goal.returns-in-Atom-clause-list
returns-in-Atom-clause-list g c =
    let w = c.args.world.now in
    let F = read w c.args.formula in
    let d = defined_read w c.in-Atom.atom in
    let reads : Some (an_atom d) ≡ subject_of (declarations_of w) F = subst (λ x. subject_read w x ≡ subject_of (declarations_of w) F) c.in-Atom.is c.requires.of_formula in
    if_ok c.atom_alternatives.result (λ list made. (an_atom d, sym reads, made)) c.atom_alternatives.ensures.list

pub returns-in-Judgement-clause-list : goal.returns-in-Judgement-clause-list
returns-in-Judgement-clause-list g c =
    let w = c.args.world.now in
    let F = read w c.args.formula in
    let j = c.in-Judgement.judgement in
    let there = there_is (subject_read w c.args.subject) c.requires.rules in
    let told = subst (λ x. subject_read w x ≡ Some there.0) c.in-Judgement.is there.1 in
    let reads = judgement_reads w c.requires.world j there.0 told in
    if_ok c.judgement_alternatives.result (λ list made. (a_judgement (judgement_read w j) reads.0, sym c.requires.of_formula ∙ there.1 ∙ ap Some (sym reads.2), made)) (c.judgement_alternatives.ensures.list reads.0 reads.1)
