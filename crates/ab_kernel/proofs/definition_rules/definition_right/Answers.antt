use Rattle.std.specs.Prelude.{Some}
use Rattle.std.specs.List.{All}
use Rattle.std.proofs.Common.{List, [], Ok, map, sym, ◌∙◌, ap, subst}
use Rattle.std.proofs.lemmas.List.Elements.{All-nil, All-cons}
use Rattle.ab_unify.specs.Problem.{cells_read}
use Rattle.ab_formulas.specs.BodyMarks.{MayBeUnfolded}
use Rattle.ab_logic.specs.SequentReadings.{sequent_of, HoldsSequent}
use Rattle.ab_logic.specs.Worlds.{declarations_of}
use Rattle.ab_logic.specs.declared.sequent.Sequent.{Sequent as Kept}
use Rattle.ab_judgements.proofs.SubjectsRead.{read_as}
use Rattle.ab_theory.specs.Row.{Takes}
use Rattle.ab_theory.specs.Rules.{row, by_hint}
use Rattle.ab_theory.specs.Steps.{definition_right}
use Rattle.ab_kernel.proofs.SubjectRows.{no_mark, no_way, never_so, sticks_so, unfolds_so}
use Rattle.ab_kernel.proofs.definition_rules.definition_right.Goals as goal

pub returns-then-not-may_be_unfolded-clause-answers : goal.returns-then-not-may_be_unfolded-clause-answers
returns-then-not-may_be_unfolded-clause-answers g c =
    let w = c.args.world.now in
    let D = declarations_of w in
    let s = sequent_of w c.args.sequent.now in
    let x = read_as w s.conclusion c.in_ok-subject.field-0 c.in_ok-subject.ensures.reads c.in-Some.subject c.in-Some.is c.in_ok-subject.ensures.rules in
    no_mark D (by_hint D (cells_read w.types w.store)) c.args.place s x.plain x.is
    (λ may. let is = c.may_be_unfolded.ensures.1 (subst MayBeUnfolded (sym (c.sign_of.ensures w x.plain x.reads)) may) in let none = c.if-not-may_be_unfolded.true in absurd (cc))

pub returns-in_default-2-clause-answers : goal.returns-in_default-2-clause-answers
returns-in_default-2-clause-answers g c =
    let w = c.args.world.now in
    let D = declarations_of w in
    let s = sequent_of w c.args.sequent.now in
    let x = read_as w s.conclusion c.in_ok-subject.field-0 c.in_ok-subject.ensures.reads c.in-Some.subject c.in-Some.is c.in_ok-subject.ensures.rules in
    let may = subst MayBeUnfolded (c.sign_of.ensures w x.plain x.reads) (c.may_be_unfolded.ensures.0 c.if-not-may_be_unfolded.false) in
    no_way D (by_hint D (cells_read w.types w.store)) c.args.place s x.plain x.is may (c.unfold_subject_at.ensures.none x.plain x.reads (c.in_ok-solved.was ∙ ap (λ q. Ok q) c.in_default-2.is))

pub returns-in-Unified-clause-answers : goal.returns-in-Unified-clause-answers
returns-in-Unified-clause-answers g c =
    let w = c.args.world.now in
    let D = declarations_of w in
    let s = sequent_of w c.args.sequent.now in
    let x = read_as w s.conclusion c.in_ok-subject.field-0 c.in_ok-subject.ensures.reads c.in-Some.subject c.in-Some.is c.in_ok-subject.ensures.rules in
    let may = subst MayBeUnfolded (c.sign_of.ensures w x.plain x.reads) (c.may_be_unfolded.ensures.0 c.if-not-may_be_unfolded.false) in
    let v = c.unfold_subject_at.new.world in
    let premise = c.in-Unified.premise in
    let told = c.in_ok-solved.was ∙ ap (λ q. Ok q) (c.in-Some-2.is ∙ ap (λ q. Some q) c.in-Unified.is) in
    let way = c.unfold_subject_at.ensures.unified x.plain premise x.reads told in
    let takes = unfolds_so D (by_hint D (cells_read w.types w.store)) c.args.place s x.plain x.is may way.0 way.1 (sequent_of v premise) way.2 in (
      subst (Takes (row D (by_hint D (cells_read w.types w.store)) (definition_right c.args.place) s)) (sym (ap (map (sequent_of v)) c.in_ok-one-in-Unified.ensures)) takes,
      subst (λ (qs : List Kept). All (HoldsSequent v) qs) (sym c.in_ok-one-in-Unified.ensures)
          (All-cons (HoldsSequent v) premise [] (c.unfold_subject_at.ensures.held premise told) (All-nil (HoldsSequent v))),
    )

pub returns-in-Apart-clause-answers : goal.returns-in-Apart-clause-answers
returns-in-Apart-clause-answers g c =
    let w = c.args.world.now in
    let D = declarations_of w in
    let s = sequent_of w c.args.sequent.now in
    let x = read_as w s.conclusion c.in_ok-subject.field-0 c.in_ok-subject.ensures.reads c.in-Some.subject c.in-Some.is c.in_ok-subject.ensures.rules in
    let may = subst MayBeUnfolded (c.sign_of.ensures w x.plain x.reads) (c.may_be_unfolded.ensures.0 c.if-not-may_be_unfolded.false) in
    let told = c.in_ok-solved.was ∙ ap (λ q. Ok q) (c.in-Some-2.is ∙ ap (λ q. Some q) c.in-Apart.is) in
    let way = c.unfold_subject_at.ensures.apart x.plain x.reads told in
    never_so D (by_hint D (cells_read w.types w.store)) c.args.place s x.plain x.is may way.0 way.1 way.2

pub returns-clause-answers : goal.returns-clause-answers
returns-clause-answers g c =
    let w = c.args.world.now in
    let D = declarations_of w in
    let s = sequent_of w c.args.sequent.now in
    let x = read_as w s.conclusion c.in_ok-subject.field-0 c.in_ok-subject.ensures.reads c.in-Some.subject c.in-Some.is c.in_ok-subject.ensures.rules in
    let may = subst MayBeUnfolded (c.sign_of.ensures w x.plain x.reads) (c.may_be_unfolded.ensures.0 c.if-not-may_be_unfolded.false) in
    let told = c.in_ok-solved.was ∙ ap (λ q. Ok q) (c.in-Some-2.is ∙ ap (λ q. Some q) c.in-Stuck.is) in
    let way = c.unfold_subject_at.ensures.stuck x.plain c.in-Stuck.equation x.reads told in
    sticks_so D (by_hint D (cells_read w.types w.store)) c.args.place s x.plain x.is may way.0 way.1 c.in-Stuck.equation way.2
