use Rattle.std.specs.Prelude.{IsTrue, ◌↔◌}
use Rattle.std.proofs.Common.{◌≡◌, List, map, inr, inl, refl, sym, ap, ◌∙◌}
use Rattle.ab_term.specs.Terms.{Nominal, Read}
use Rattle.ab_formulas.specs.Marks.{plain}
use Rattle.ab_unify.specs.Problem.{cells_read}
use Rattle.ab_logic.specs.SequentReadings.{sequent_of}
use Rattle.ab_logic.specs.Worlds.{read, declarations_of}
use Rattle.ab_logic.proofs.Growing.{grows_on, same_sequent, still_held}
use Rattle.ab_theory.specs.Contexts.{replace_constants}
use Rattle.ab_theory.specs.Judgements.{marked_judgement}
use Rattle.ab_theory.specs.Rules.{by_hint}
use Rattle.ab_rules.specs.RuleAnswers.{label_of, replacements}
use Rattle.ab_logic.proofs.Declared.{declared_same, declared_on}
use Rattle.ab_kernel.proofs.Later.{same_replacements, still_replaces}
use Rattle.ab_kernel.proofs.Replacing.{may_before, fit_before}
use Rattle.ab_kernel.proofs.JudgementRows.{instance_row, with_same}
use Rattle.ab_kernel.proofs.judgement_rules.spec_instance.Goals as goal

pub returns-in_err-judgement-clause-declared : goal.returns-in_err-judgement-clause-declared
returns-in_err-judgement-clause-declared g c =
    let one = c.in_err-judgement.ensures in
    declared_same c.args.world.now c.judgement_of.new.world c.requires.world one.grows one.additions one.types

pub may_be_replaced-requires-clause-replaces : goal.may_be_replaced-requires-clause-replaces
may_be_replaced-requires-clause-replaces g c = still_replaces c.args.world.now c.judgement_of.new.world c.in_ok-judgement.ensures.grows c.args.replaces.now c.requires.replaces

pub returns-in_err-may_be_replaced-clause-declared : goal.returns-in_err-may_be_replaced-clause-declared
returns-in_err-may_be_replaced-clause-declared g c =
    let one = c.in_ok-judgement.ensures in
    declared_same c.args.world.now c.judgement_of.new.world c.requires.world one.grows one.additions one.types

pub returns-then-not-branch-clause-answers : goal.returns-then-not-branch-clause-answers
returns-then-not-branch-clause-answers g c =
    let w = c.args.world.now in
    let v = c.judgement_of.new.world in
    let rs = c.args.replaces.now in
    let one = c.in_ok-judgement.ensures in
    let told = may_before w v rs (same_replacements w v one.grows rs c.requires.replaces) c.in_ok-may_be_replaced.field-0 (read v c.in_ok-judgement.judgement) _ one.reads c.in_ok-may_be_replaced.ensures in
    inr (_, sym (c.in-Some.ensures.reads w), inr (_, sym c.in-Some-as_unfocused.ensures.reads, inl (λ may. let is = told.1 may in let none = c.if-not-branch.true in absurd (cc), refl)))

pub returns-then-not-branch-clause-declared : goal.returns-then-not-branch-clause-declared
returns-then-not-branch-clause-declared g c =
    let one = c.in_ok-judgement.ensures in
    declared_same c.args.world.now c.judgement_of.new.world c.requires.world one.grows one.additions one.types

pub all_fit-requires-clause-held : goal.all_fit-requires-clause-held
all_fit-requires-clause-held g c = still_held c.args.world.now c.judgement_of.new.world c.in_ok-judgement.ensures.grows c.args.sequent.now c.requires.held

pub all_fit-requires-clause-replaces : goal.all_fit-requires-clause-replaces
all_fit-requires-clause-replaces g c = still_replaces c.args.world.now c.judgement_of.new.world c.in_ok-judgement.ensures.grows c.args.replaces.now c.requires.replaces

pub returns-in_err-all_fit-clause-declared : goal.returns-in_err-all_fit-clause-declared
returns-in_err-all_fit-clause-declared g c =
    let one = c.in_ok-judgement.ensures in
    declared_same c.args.world.now c.judgement_of.new.world c.requires.world one.grows one.additions one.types

pub returns-then-not-branch-2-clause-answers : goal.returns-then-not-branch-2-clause-answers
returns-then-not-branch-2-clause-answers g c =
    let w = c.args.world.now in
    let v = c.judgement_of.new.world in
    let s = c.args.sequent.now in
    let rs = c.args.replaces.now in
    let one = c.in_ok-judgement.ensures in
    let same = same_replacements w v one.grows rs c.requires.replaces in
    let declared = declared_same w v c.requires.world one.grows one.additions one.types in
    let may = may_before w v rs same c.in_ok-may_be_replaced.field-0 (read v c.in_ok-judgement.judgement) _ one.reads c.in_ok-may_be_replaced.ensures in
    let fit = fit_before w v rs same c.in_ok-all_fit.field-0 s declared (same_sequent w v one.grows s c.requires.held) c.in_ok-all_fit.ensures in
    inr (
      _,
      sym (c.in-Some.ensures.reads w),
      inr (_, sym c.in-Some-as_unfocused.ensures.reads, inr (may.0 c.if-not-branch.false, inl (λ all. let is = fit.1 all in let none = c.if-not-branch-2.true in absurd (cc), refl))),
    )

pub returns-then-not-branch-2-clause-declared : goal.returns-then-not-branch-2-clause-declared
returns-then-not-branch-2-clause-declared g c =
    let one = c.in_ok-judgement.ensures in
    declared_same c.args.world.now c.judgement_of.new.world c.requires.world one.grows one.additions one.types

pub with_terms-requires-clause-replaces : goal.with_terms-requires-clause-replaces
with_terms-requires-clause-replaces g c = still_replaces c.args.world.now c.judgement_of.new.world c.in_ok-judgement.ensures.grows c.args.replaces.now c.requires.replaces

pub returns-in_err-made-clause-grows : goal.returns-in_err-made-clause-grows
returns-in_err-made-clause-grows g c = grows_on c.args.world.now c.judgement_of.new.world c.with_terms.new.world c.in_ok-judgement.ensures.grows c.in_err-made.ensures.grows

pub returns-in_err-made-clause-declared : goal.returns-in_err-made-clause-declared
returns-in_err-made-clause-declared g c =
    let one = c.in_ok-judgement.ensures in
    let two = c.in_err-made.ensures in
    declared_on c.args.world.now c.judgement_of.new.world c.with_terms.new.world c.requires.world one.grows one.additions one.types two.grows two.additions two.types

pub goals_assuming-requires-clause-held : goal.goals_assuming-requires-clause-held
goals_assuming-requires-clause-held g c =
    let w = c.args.world.now in
    let v = c.with_terms.new.world in
    still_held w v (grows_on w c.judgement_of.new.world v c.in_ok-judgement.ensures.grows c.in_ok-made.ensures.grows) c.args.sequent.now c.requires.held

pub returns-clause-grows : goal.returns-clause-grows
returns-clause-grows g c = grows_on c.args.world.now c.judgement_of.new.world c.with_terms.new.world c.in_ok-judgement.ensures.grows c.in_ok-made.ensures.grows

pub returns-clause-declared : goal.returns-clause-declared
returns-clause-declared g c =
    let one = c.in_ok-judgement.ensures in
    let two = c.in_ok-made.ensures in
    declared_on c.args.world.now c.judgement_of.new.world c.with_terms.new.world c.requires.world one.grows one.additions one.types two.grows two.additions two.types

pub returns-clause-answers : goal.returns-clause-answers
returns-clause-answers g c =
    let w = c.args.world.now in
    let u = c.judgement_of.new.world in
    let v = c.with_terms.new.world in
    let s = c.args.sequent.now in
    let rs = c.args.replaces.now in
    let D = declarations_of w in
    let one = c.in_ok-judgement.ensures in
    let grown = grows_on w u v one.grows c.in_ok-made.ensures.grows in
    let p = c.in-Some-as_unfocused in
    let J = marked_judgement plain (read w p.list) (read w p.goal) in
    let same = same_replacements w u one.grows rs c.requires.replaces in
    let declared = declared_same w u c.requires.world one.grows one.additions one.types in
    let may = may_before w u rs same c.in_ok-may_be_replaced.field-0 (read u c.in_ok-judgement.judgement) J one.reads c.in_ok-may_be_replaced.ensures in
    let fit = fit_before w u rs same c.in_ok-all_fit.field-0 s declared (same_sequent w u one.grows s c.requires.held) c.in_ok-all_fit.ensures in
    let reads : read v c.in_ok-made.made ≡ replace_constants (replacements w rs) J =
    c.in_ok-made.ensures.reads
    ∙ ap (λ (qs : List (Nominal × Read)). replace_constants qs (read u c.in_ok-judgement.judgement)) same
    ∙ ap (replace_constants (replacements w rs)) one.reads in
    instance_row v D (by_hint D (cells_read w.types w.store)) (label_of c.args.given.now) (sequent_of w s) c.args.name.now (read w c.in-Some.formula) (read w p.list, read w p.goal) (sym (c.in-Some.ensures.reads w)) (sym p.ensures.reads)
    (replacements w rs) c.goals_assuming.result (may.0 c.if-not-branch.false) (fit.0 c.if-not-branch-2.false)
    (with_same v 5 (label_of c.args.given.now) c.goals_assuming.result (sequent_of v s) (sequent_of w s) (same_sequent w v grown s c.requires.held) (read v c.in_ok-made.made) (replace_constants (replacements w rs) J) reads c.goals_assuming.ensures)
