use Rattle.std.specs.Prelude.{Some, None}
use Rattle.std.specs.Option.{option_map}
use Rattle.std.proofs.Common.{◌≡◌, inr, inl, refl, sym, ap, ◌∙◌}
use Rattle.ab_formulas.specs.Marks.{plain}
use Rattle.ab_unify.specs.Problem.{cells_read}
use Rattle.ab_logic.specs.SequentReadings.{sequent_of}
use Rattle.ab_logic.specs.Worlds.{read, declarations_of}
use Rattle.ab_logic.proofs.Growing.{grows_on, same_sequent, still_held}
use Rattle.ab_theory.specs.Contexts.{cut_list}
use Rattle.ab_theory.specs.Judgements.{marked_judgement}
use Rattle.ab_theory.specs.Rules.{by_hint}
use Rattle.ab_rules.specs.RuleAnswers.{label_of}
use Rattle.ab_logic.proofs.Declared.{declared_same, declared_on}
use Rattle.ab_kernel.proofs.JudgementRows.{cut_row, with_same}
use Rattle.ab_kernel.proofs.judgement_rules.spec_cut.Goals as goal

pub returns-in_default-as_unfocused-2-clause-answers : goal.returns-in_default-as_unfocused-2-clause-answers
returns-in_default-as_unfocused-2-clause-answers c =
    let w = c.args.world.now in
    inr (
      _,
      sym (c.in-Some.ensures.reads w),
      inr (_, sym (c.in-Some-look.ensures.reads w), inr (_, sym c.in-Some-as_unfocused.ensures.reads, inl (sym c.in_default-as_unfocused-2.ensures.reads, refl))),
    )

pub returns-in_default-2-clause-answers : goal.returns-in_default-2-clause-answers
returns-in_default-2-clause-answers c =
    let w = c.args.world.now in
    let none : cut_list (read w c.in-Some-as_unfocused.list) (read w c.in-Some-as_unfocused-2.item) (read w c.in-Some-as_unfocused-2.rest) ≡ None =
    sym c.in_ok-left.ensures.reads ∙ ap (option_map (read c.cut_list.new.world)) c.in_default-2.is in
    inr (
      _,
      sym (c.in-Some.ensures.reads w),
      inr (
        _,
        sym (c.in-Some-look.ensures.reads w),
        inr (_, sym c.in-Some-as_unfocused.ensures.reads, inr (_, sym c.in-Some-as_unfocused-2.ensures.reads, inl (none, refl))),
      ),
    )

pub returns-in_err-left-clause-declared : goal.returns-in_err-left-clause-declared
returns-in_err-left-clause-declared c =
    let one = c.in_err-left.ensures in
    declared_same c.args.world.now c.cut_list.new.world c.requires.world one.grows one.additions one.types

pub returns-in_default-2-clause-declared : goal.returns-in_default-2-clause-declared
returns-in_default-2-clause-declared c =
    let one = c.in_ok-left.ensures in
    declared_same c.args.world.now c.cut_list.new.world c.requires.world one.grows one.additions one.types

pub returns-in_err-made-clause-grows : goal.returns-in_err-made-clause-grows
returns-in_err-made-clause-grows c = grows_on c.args.world.now c.cut_list.new.world c.judgement_of.new.world c.in_ok-left.ensures.grows c.in_err-made.ensures.grows

pub returns-in_err-made-clause-declared : goal.returns-in_err-made-clause-declared
returns-in_err-made-clause-declared c =
    let one = c.in_ok-left.ensures in
    let two = c.in_err-made.ensures in
    declared_on c.args.world.now c.cut_list.new.world c.judgement_of.new.world c.requires.world one.grows one.additions one.types two.grows two.additions two.types

pub goals_assuming-requires-clause-held : goal.goals_assuming-requires-clause-held
goals_assuming-requires-clause-held c =
    let w = c.args.world.now in
    let v = c.judgement_of.new.world in
    still_held w v (grows_on w c.cut_list.new.world v c.in_ok-left.ensures.grows c.in_ok-made.ensures.grows) c.args.sequent.now c.requires.held

pub returns-clause-grows : goal.returns-clause-grows
returns-clause-grows c = grows_on c.args.world.now c.cut_list.new.world c.judgement_of.new.world c.in_ok-left.ensures.grows c.in_ok-made.ensures.grows

pub returns-clause-declared : goal.returns-clause-declared
returns-clause-declared c =
    let one = c.in_ok-left.ensures in
    let two = c.in_ok-made.ensures in
    declared_on c.args.world.now c.cut_list.new.world c.judgement_of.new.world c.requires.world one.grows one.additions one.types two.grows two.additions two.types

pub returns-clause-answers : goal.returns-clause-answers
returns-clause-answers c =
    let w = c.args.world.now in
    let u = c.cut_list.new.world in
    let v = c.judgement_of.new.world in
    let s = c.args.sequent.now in
    let D = declarations_of w in
    let one = c.in_ok-left.ensures in
    let grown = grows_on w u v one.grows c.in_ok-made.ensures.grows in
    let p = c.in-Some-as_unfocused in
    let q = c.in-Some-as_unfocused-2 in
    let left = read u c.in-Some-2.left in
    let found : cut_list (read w p.list) (read w q.item) (read w q.rest) ≡ Some left = sym one.reads ∙ ap (option_map (read u)) c.in-Some-2.is in
    let reads : read v c.in_ok-made.made ≡ marked_judgement plain left (read w p.goal) = c.in_ok-made.ensures.reads ∙ ap (marked_judgement plain left) (one.grows.readings p.goal p.ensures.held.1) in
    cut_row v D (by_hint D (cells_read w.types w.store)) (label_of c.args.given.now) (sequent_of w s) c.args.name.now (read w c.in-Some.formula) (read w p.list, read w p.goal) (sym (c.in-Some.ensures.reads w)) (sym p.ensures.reads)
    c.args.other.now (read w c.in-Some-look.cutting) left (read w q.rest, read w q.item) c.goals_assuming.result (sym (c.in-Some-look.ensures.reads w)) (sym q.ensures.reads) found
    (with_same v 4 (label_of c.args.given.now) c.goals_assuming.result (sequent_of v s) (sequent_of w s) (same_sequent w v grown s c.requires.held) (read v c.in_ok-made.made) (marked_judgement plain left (read w p.goal)) reads c.goals_assuming.ensures)
