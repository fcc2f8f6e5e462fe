use Rattle.std.proofs.Common.{Ok, inl, inr, refl, sym, ◌∙◌, ap, subst}
use Rattle.ab_formulas.specs.BodyMarks.{MayBeAnalysed}
use Rattle.ab_formulas.specs.NewNames.{Names, NoName}
use Rattle.ab_formulas.specs.Sequents.{without, formulas}
use Rattle.ab_logic.specs.SequentReadings.{sequent_of}
use Rattle.ab_logic.specs.Worlds.{read, declarations_of}
use Rattle.ab_judgements.specs.ab_alternatives.specs.ab_equations.specs.Labels.{label_of}
use Rattle.ab_judgements.proofs.SubjectsRead.{read_as}
use Rattle.ab_term.proofs.Lists.{Contains-there}
use Rattle.ab_theory.proofs.Analysable.{rest_formulas}
use Rattle.ab_theory.proofs.Sequents.{found_there}
use Rattle.ab_kernel.proofs.definition_rules.definition_left.Goals as goal

pub split_subject-requires-clause-formulas : goal.split_subject-requires-clause-formulas
split_subject-requires-clause-formulas g c =
    let w = c.args.world.now in
    let s = sequent_of w c.args.sequent.now in
    let L = c.in-Some-3.named.name in
    let t = sequent_of w c.in-Some-3.named.sequent in
    let first : Names (label_of c.args.given.now) (sequent_of w c.in_ok-copy_without.field-0) L t = rw c.in-Some-3.is at (c.in_ok-named.ensures.named w) in
    let labelled : Names (label_of c.args.given.now) (without c.args.name.now s) L t = subst (λ r. Names (label_of c.args.given.now) r L t) (c.in_ok-copy_without.ensures.reads w) first in
    rest_formulas (declarations_of w) s c.requires.sequent c.args.name.now (label_of c.args.given.now) L t labelled

pub split_subject-requires-clause-of_goal : goal.split_subject-requires-clause-of_goal
split_subject-requires-clause-of_goal g c =
    let w = c.args.world.now in
    let s = sequent_of w c.args.sequent.now in
    let F = read w c.in-Some.formula in
    let x = read_as w F c.in_ok-subject.field-0 c.in_ok-subject.ensures.reads c.in-Some-2.subject c.in-Some-2.is c.in_ok-subject.ensures.rules in
    (F, Contains-there s.conclusion (formulas s.hypotheses) F (found_there s.hypotheses c.args.name.now F (sym (c.in-Some.ensures.reads w))), x.reads ∙ sym x.is)

pub returns-in-Goals-clause-answers : goal.returns-in-Goals-clause-answers
returns-in-Goals-clause-answers g c =
    let w = c.args.world.now in
    let s = sequent_of w c.args.sequent.now in
    let L = c.in-Some-3.named.name in
    let t = sequent_of w c.in-Some-3.named.sequent in
    let F = read w c.in-Some.formula in
    let x = read_as w F c.in_ok-subject.field-0 c.in_ok-subject.ensures.reads c.in-Some-2.subject c.in-Some-2.is c.in_ok-subject.ensures.rules in
    let first : Names (label_of c.args.given.now) (sequent_of w c.in_ok-copy_without.field-0) L t = rw c.in-Some-3.is at (c.in_ok-named.ensures.named w) in
    let labelled : Names (label_of c.args.given.now) (without c.args.name.now s) L t = subst (λ r. Names (label_of c.args.given.now) r L t) (c.in_ok-copy_without.ensures.reads w) first in
    let may = subst MayBeAnalysed (c.sign_of.ensures w x.plain x.reads) (c.may_be_analysed.ensures.0 c.if-not-may_be_analysed.false) in
    let told = c.in_ok-premises.was ∙ ap (λ q. Ok q) c.in-Goals.is in
    let split = c.split_subject.ensures.goals x.plain c.in-Goals.premises x.reads told in
    ((F, sym (c.in-Some.ensures.reads w), (x.plain, x.is, (may, (L, t, labelled, split)))), c.split_subject.ensures.held c.in-Goals.premises told)

pub returns-then-not-may_be_analysed-clause-answers : goal.returns-then-not-may_be_analysed-clause-answers
returns-then-not-may_be_analysed-clause-answers g c =
    let w = c.args.world.now in
    let F = read w c.in-Some.formula in
    let x = read_as w F c.in_ok-subject.field-0 c.in_ok-subject.ensures.reads c.in-Some-2.subject c.in-Some-2.is c.in_ok-subject.ensures.rules in
    inr (
      F,
      sym (c.in-Some.ensures.reads w),
      inr (
        x.plain,
        x.is,
        inl (λ may. let is = c.may_be_analysed.ensures.1 (subst MayBeAnalysed (sym (c.sign_of.ensures w x.plain x.reads)) may) in let none = c.if-not-may_be_analysed.true in absurd (cc), refl),
      ),
    )

pub returns-in_default-3-clause-answers : goal.returns-in_default-3-clause-answers
returns-in_default-3-clause-answers g c =
    let w = c.args.world.now in
    let F = read w c.in-Some.formula in
    let x = read_as w F c.in_ok-subject.field-0 c.in_ok-subject.ensures.reads c.in-Some-2.subject c.in-Some-2.is c.in_ok-subject.ensures.rules in
    let may = subst MayBeAnalysed (c.sign_of.ensures w x.plain x.reads) (c.may_be_analysed.ensures.0 c.if-not-may_be_analysed.false) in
    let first : NoName (label_of c.args.given.now) (sequent_of w c.in_ok-copy_without.field-0) = rw c.in_default-3.is at (c.in_ok-named.ensures.named w) in
    let none : NoName (label_of c.args.given.now) (without c.args.name.now (sequent_of w c.args.sequent.now)) = subst (NoName (label_of c.args.given.now)) (c.in_ok-copy_without.ensures.reads w) first in
    inr (F, sym (c.in-Some.ensures.reads w), inr (x.plain, x.is, inr (may, inl (none, refl))))

pub returns-clause-answers : goal.returns-clause-answers
returns-clause-answers g c =
    let w = c.args.world.now in
    let s = sequent_of w c.args.sequent.now in
    let L = c.in-Some-3.named.name in
    let t = sequent_of w c.in-Some-3.named.sequent in
    let F = read w c.in-Some.formula in
    let x = read_as w F c.in_ok-subject.field-0 c.in_ok-subject.ensures.reads c.in-Some-2.subject c.in-Some-2.is c.in_ok-subject.ensures.rules in
    let first : Names (label_of c.args.given.now) (sequent_of w c.in_ok-copy_without.field-0) L t = rw c.in-Some-3.is at (c.in_ok-named.ensures.named w) in
    let labelled : Names (label_of c.args.given.now) (without c.args.name.now s) L t = subst (λ r. Names (label_of c.args.given.now) r L t) (c.in_ok-copy_without.ensures.reads w) first in
    let may = subst MayBeAnalysed (c.sign_of.ensures w x.plain x.reads) (c.may_be_analysed.ensures.0 c.if-not-may_be_analysed.false) in
    let unsplit = c.split_subject.ensures.stuck x.plain c.in-Stuck.place x.reads (c.in_ok-premises.was ∙ ap (λ q. Ok q) c.in-Stuck.is) in
    (F, sym (c.in-Some.ensures.reads w), (x.plain, x.is, (may, (L, t, labelled, unsplit))))
