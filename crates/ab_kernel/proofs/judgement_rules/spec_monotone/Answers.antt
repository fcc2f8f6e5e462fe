use Rattle.std.specs.Prelude.{IsTrue, ◌↔◌}
use Rattle.std.proofs.Common.{◌≡◌, inr, inl, refl, sym, ap, ◌∙◌, subst}
use Rattle.ab_term.specs.Types.{Ty, olist}
use Rattle.ab_formulas.specs.Marks.{plain}
use Rattle.ab_formulas.specs.Sequents.{Fits}
use Rattle.ab_unify.specs.Problem.{cells_read}
use Rattle.ab_logic.specs.SequentReadings.{sequent_of}
use Rattle.ab_logic.specs.Worlds.{read, declarations_of}
use Rattle.ab_logic.proofs.Growing.{grows_on, same_sequent, still_held}
use Rattle.ab_theory.specs.Contexts.{is_within}
use Rattle.ab_theory.specs.Judgements.{marked_judgement}
use Rattle.ab_theory.specs.Rules.{by_hint}
use Rattle.ab_rules.specs.RuleAnswers.{label_of}
use Rattle.ab_logic.proofs.Declared.{declared_same, declared_on}
use Rattle.ab_kernel.proofs.JudgementRows.{monotone_row, beside_same}
use Rattle.ab_kernel.proofs.judgement_rules.spec_monotone.Goals as goal

pub returns-then-not-branch-clause-answers : goal.returns-then-not-branch-clause-answers
returns-then-not-branch-clause-answers c =
    let w = c.args.world.now in
    let told : IsTrue c.in_ok-fits_in.field-0 ↔ Fits (declarations_of w) (sequent_of w c.args.sequent.now) (read w c.args.wider) olist =
    subst (λ (A : Ty). IsTrue c.in_ok-fits_in.field-0 ↔ Fits (declarations_of w) (sequent_of w c.args.sequent.now) (read w c.args.wider) A) c.in_ok-ty.ensures.reads c.in_ok-fits_in.ensures in
    inr (_, sym (c.in-Some.ensures.reads w), inr (_, sym c.in-Some-as_unfocused.ensures.reads, inl (λ fit. let is = told.1 fit in let none = c.if-not-branch.true in absurd (cc), refl)))

pub returns-in_err-within-clause-declared : goal.returns-in_err-within-clause-declared
returns-in_err-within-clause-declared c =
    let one = c.in_err-within.ensures in
    declared_same c.args.world.now c.is_within.new.world c.requires.world one.grows one.additions one.types

pub returns-in_err-made-clause-grows : goal.returns-in_err-made-clause-grows
returns-in_err-made-clause-grows c = grows_on c.args.world.now c.is_within.new.world c.judgement_of.new.world c.in_ok-within.ensures.grows c.in_err-made.ensures.grows

pub returns-in_err-made-clause-declared : goal.returns-in_err-made-clause-declared
returns-in_err-made-clause-declared c =
    let one = c.in_ok-within.ensures in
    let two = c.in_err-made.ensures in
    declared_on c.args.world.now c.is_within.new.world c.judgement_of.new.world c.requires.world one.grows one.additions one.types two.grows two.additions two.types

pub proving_and_assuming-requires-clause-held : goal.proving_and_assuming-requires-clause-held
proving_and_assuming-requires-clause-held c =
    let w = c.args.world.now in
    let v = c.judgement_of.new.world in
    still_held w v (grows_on w c.is_within.new.world v c.in_ok-within.ensures.grows c.in_ok-made.ensures.grows) c.args.sequent.now c.requires.held

pub proving_and_assuming-requires-clause-first : goal.proving_and_assuming-requires-clause-first
proving_and_assuming-requires-clause-first c = c.in_ok-made.ensures.grows.ids c.in_ok-within.within c.in_ok-within.ensures.held

pub returns-clause-grows : goal.returns-clause-grows
returns-clause-grows c = grows_on c.args.world.now c.is_within.new.world c.judgement_of.new.world c.in_ok-within.ensures.grows c.in_ok-made.ensures.grows

pub returns-clause-declared : goal.returns-clause-declared
returns-clause-declared c =
    let one = c.in_ok-within.ensures in
    let two = c.in_ok-made.ensures in
    declared_on c.args.world.now c.is_within.new.world c.judgement_of.new.world c.requires.world one.grows one.additions one.types two.grows two.additions two.types

pub returns-clause-answers : goal.returns-clause-answers
returns-clause-answers c =
    let w = c.args.world.now in
    let u = c.is_within.new.world in
    let v = c.judgement_of.new.world in
    let s = c.args.sequent.now in
    let D = declarations_of w in
    let K = read w c.args.wider in
    let p = c.in-Some-as_unfocused in
    let one = c.in_ok-within.ensures in
    let two = c.in_ok-made.ensures in
    let grown = grows_on w u v one.grows two.grows in
    let told : IsTrue c.in_ok-fits_in.field-0 ↔ Fits D (sequent_of w s) K olist =
    subst (λ (A : Ty). IsTrue c.in_ok-fits_in.field-0 ↔ Fits D (sequent_of w s) K A) c.in_ok-ty.ensures.reads c.in_ok-fits_in.ensures in
    let within : read v c.in_ok-within.within ≡ is_within (read w p.list) K = two.grows.readings c.in_ok-within.within one.held ∙ one.reads in
    let reads : read v c.in_ok-made.made ≡ marked_judgement plain K (read w p.goal) =
    two.reads
    ∙ ap (λ k. marked_judgement plain k (read u p.goal)) (one.grows.readings c.args.wider c.requires.wider)
    ∙ ap (marked_judgement plain K) (one.grows.readings p.goal p.ensures.held.1) in
    monotone_row v D (by_hint D (cells_read w.types w.store)) (label_of c.args.given.now) (sequent_of w s) c.args.name.now (read w c.in-Some.formula) (read w p.list, read w p.goal) (sym (c.in-Some.ensures.reads w)) (sym p.ensures.reads)
    K c.proving_and_assuming.result (told.0 c.if-not-branch.false)
    (beside_same v 4 (label_of c.args.given.now) c.proving_and_assuming.result (sequent_of v s) (sequent_of w s) (same_sequent w v grown s c.requires.held) (read v c.in_ok-made.made) (marked_judgement plain K (read w p.goal)) reads
    (read v c.in_ok-within.within) (is_within (read w p.list) K) within c.proving_and_assuming.ensures)
