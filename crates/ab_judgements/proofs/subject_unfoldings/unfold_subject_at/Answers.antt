use Rattle.std.specs.Prelude.{slice_get}
use Rattle.std.specs.Option.{option_map}
use Rattle.std.proofs.Common.{◌≡◌, Some, None, sym, ◌∙◌, ap, subst}
use Rattle.std.proofs.lemmas.Option.{slice_get-map}
use Rattle.ab_term.proofs.Lists.{Contains-here}
use Rattle.ab_unify.specs.Problem.{cells_read}
use Rattle.ab_formulas.specs.Sequents.{formulas, goal_names}
use Rattle.ab_logic.specs.SequentReadings.{sequent_of}
use Rattle.ab_logic.specs.Worlds.{declarations_of}
use Rattle.ab_theory.specs.Atoms.{choices_of}
use Rattle.ab_theory.specs.Splits.{NeverArises, IsOpen}
use Rattle.ab_theory.specs.Subjects.{Way, an_atom, subject_of, way_by_choice, way_by_rule, ways_of}
use Rattle.ab_theory.proofs.SubjectParts.{subject_is, made_there}
use Rattle.ab_alternatives.specs.AtomReadings.{defined_read}
use Rattle.ab_judgement_forms.specs.JudgementReadings.{judgement_read}
use Rattle.ab_judgements.specs.SubjectAnswers.{IsUnfoldedBy}
use Rattle.ab_judgements.specs.SubjectReadings.{subject_read, HoldsSubject, HasRules}
use Rattle.ab_judgements.proofs.SubjectForms.{formula_in, judgement_reads, judgement_typed}
use Rattle.ab_judgements.proofs.subject_unfoldings.unfold_subject_at.Goals as goal

pub unfold_at-requires-clause-conclusion : goal.unfold_at-requires-clause-conclusion
unfold_at-requires-clause-conclusion g c =
    let w = c.args.world.now in
    let F = (sequent_of w c.args.goal.now).conclusion in
    subject_is (declarations_of w) F (an_atom (defined_read w c.in-Atom.atom)) (sym (subst (λ x. subject_read w x ≡ subject_of (declarations_of w) F) c.in-Atom.is c.requires.conclusion))

pub unfold_judgement_at-requires-clause-typed : goal.unfold_judgement_at-requires-clause-typed
unfold_judgement_at-requires-clause-typed g c =
    let w = c.args.world.now in
    let s = sequent_of w c.args.goal.now in
    judgement_typed w c.requires.world c.in-Judgement.judgement (subst (HoldsSubject w) c.in-Judgement.is c.requires.subject) (subst (HasRules w) c.in-Judgement.is c.requires.rules) s.conclusion
    (formula_in w c.args.goal.now c.requires.sequent s.conclusion (Contains-here s.conclusion (formulas s.hypotheses))) (subst (λ x. subject_read w x ≡ subject_of (declarations_of w) s.conclusion) c.in-Judgement.is c.requires.conclusion)

pub returns-in-Atom-clause-none : goal.returns-in-Atom-clause-none
returns-in-Atom-clause-none g c = λ x e r.
    let w = c.args.world.now in
    let s = sequent_of w c.args.goal.now in
    let d = defined_read w c.in-Atom.atom in
    let reads : Some (an_atom d) ≡ Some x = subst (λ q. subject_read w q ≡ Some x) c.in-Atom.is e in
    let same : an_atom d ≡ x = cc in
    let f = way_by_choice s d in
    subst (λ y. slice_get (ways_of s y) c.args.place ≡ None) same (slice_get-map f (choices_of (goal_names s) d) c.args.place ∙ ap (option_map f) (c.unfold_at.ensures.none r))

pub returns-in-Judgement-clause-none : goal.returns-in-Judgement-clause-none
returns-in-Judgement-clause-none g c = λ x e r.
    let w = c.args.world.now in
    let s = sequent_of w c.args.goal.now in
    let j = judgement_read w c.in-Judgement.judgement in
    let reads = judgement_reads w c.requires.world c.in-Judgement.judgement x (subst (λ q. subject_read w q ≡ Some x) c.in-Judgement.is e) in
    let f = way_by_rule s j in
    subst (λ y. slice_get (ways_of s y) c.args.place ≡ None) reads.2 (slice_get-map f reads.0 c.args.place ∙ ap (option_map f) (c.unfold_judgement_at.ensures.none reads.0 reads.1 r))

pub returns-in-Atom-clause-unified : goal.returns-in-Atom-clause-unified
returns-in-Atom-clause-unified g c = λ x p e r.
    let w = c.args.world.now in
    let s = sequent_of w c.args.goal.now in
    let d = defined_read w c.in-Atom.atom in
    let reads : Some (an_atom d) ≡ Some x = subst (λ q. subject_read w q ≡ Some x) c.in-Atom.is e in
    let same : an_atom d ≡ x = cc in
    let f = way_by_choice s d in
    let u = c.unfold_at.ensures.unified p r in
    subst (λ z. (y : Way) × (slice_get (ways_of s z) c.args.place ≡ Some y) × IsUnfoldedBy (cells_read w.types w.store) s y (sequent_of c.unfold_at.new.world p)) same
    (f u.0, made_there f (choices_of (goal_names s) d) c.args.place u.0 u.1, u.2)

pub returns-in-Judgement-clause-unified : goal.returns-in-Judgement-clause-unified
returns-in-Judgement-clause-unified g c = λ x p e r.
    let w = c.args.world.now in
    let s = sequent_of w c.args.goal.now in
    let j = judgement_read w c.in-Judgement.judgement in
    let reads = judgement_reads w c.requires.world c.in-Judgement.judgement x (subst (λ q. subject_read w q ≡ Some x) c.in-Judgement.is e) in
    let f = way_by_rule s j in
    let u = c.unfold_judgement_at.ensures.unified reads.0 p reads.1 r in
    subst (λ z. (y : Way) × (slice_get (ways_of s z) c.args.place ≡ Some y) × IsUnfoldedBy (cells_read w.types w.store) s y (sequent_of c.unfold_judgement_at.new.world p)) reads.2
    (f u.0, made_there f reads.0 c.args.place u.0 u.1, u.2)

pub returns-in-Atom-clause-apart : goal.returns-in-Atom-clause-apart
returns-in-Atom-clause-apart g c = λ x e r.
    let w = c.args.world.now in
    let s = sequent_of w c.args.goal.now in
    let d = defined_read w c.in-Atom.atom in
    let reads : Some (an_atom d) ≡ Some x = subst (λ q. subject_read w q ≡ Some x) c.in-Atom.is e in
    let same : an_atom d ≡ x = cc in
    let f = way_by_choice s d in
    let u = c.unfold_at.ensures.apart r in
    subst (λ z. (y : Way) × (slice_get (ways_of s z) c.args.place ≡ Some y) × NeverArises (y.case (cells_read w.types w.store))) same
    (f u.0, made_there f (choices_of (goal_names s) d) c.args.place u.0 u.1, u.2)

pub returns-in-Judgement-clause-apart : goal.returns-in-Judgement-clause-apart
returns-in-Judgement-clause-apart g c = λ x e r.
    let w = c.args.world.now in
    let s = sequent_of w c.args.goal.now in
    let j = judgement_read w c.in-Judgement.judgement in
    let reads = judgement_reads w c.requires.world c.in-Judgement.judgement x (subst (λ q. subject_read w q ≡ Some x) c.in-Judgement.is e) in
    let f = way_by_rule s j in
    let u = c.unfold_judgement_at.ensures.apart reads.0 reads.1 r in
    subst (λ z. (y : Way) × (slice_get (ways_of s z) c.args.place ≡ Some y) × NeverArises (y.case (cells_read w.types w.store))) reads.2
    (f u.0, made_there f reads.0 c.args.place u.0 u.1, u.2)

pub returns-in-Atom-clause-stuck : goal.returns-in-Atom-clause-stuck
returns-in-Atom-clause-stuck g c = λ x i e r.
    let w = c.args.world.now in
    let s = sequent_of w c.args.goal.now in
    let d = defined_read w c.in-Atom.atom in
    let reads : Some (an_atom d) ≡ Some x = subst (λ q. subject_read w q ≡ Some x) c.in-Atom.is e in
    let same : an_atom d ≡ x = cc in
    let f = way_by_choice s d in
    let u = c.unfold_at.ensures.stuck i r in
    subst (λ z. (y : Way) × (slice_get (ways_of s z) c.args.place ≡ Some y) × IsOpen (y.case (cells_read w.types w.store)) i) same
    (f u.0, made_there f (choices_of (goal_names s) d) c.args.place u.0 u.1, u.2)

pub returns-in-Judgement-clause-stuck : goal.returns-in-Judgement-clause-stuck
returns-in-Judgement-clause-stuck g c = λ x i e r.
    let w = c.args.world.now in
    let s = sequent_of w c.args.goal.now in
    let j = judgement_read w c.in-Judgement.judgement in
    let reads = judgement_reads w c.requires.world c.in-Judgement.judgement x (subst (λ q. subject_read w q ≡ Some x) c.in-Judgement.is e) in
    let f = way_by_rule s j in
    let u = c.unfold_judgement_at.ensures.stuck reads.0 i reads.1 r in
    subst (λ z. (y : Way) × (slice_get (ways_of s z) c.args.place ≡ Some y) × IsOpen (y.case (cells_read w.types w.store)) i) reads.2
    (f u.0, made_there f reads.0 c.args.place u.0 u.1, u.2)
