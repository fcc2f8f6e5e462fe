use Rattle.std.specs.Prelude.{IsTrue, ◌↔◌}
use Rattle.std.proofs.Common.{◌≡◌, ap, ◌∙◌, subst}
use Rattle.std.proofs.lemmas.Result.{IfOk-weaker}
use Rattle.ab_term.specs.Names.{EqualUpToNames}
use Rattle.ab_formulas.specs.Marks.{erased}
use Rattle.ab_logic.specs.Worlds.{read}
use Rattle.ab_logic.proofs.Growing.{grows_on}
use Rattle.ab_logic.proofs.Declared.{declared_same}
use Rattle.ab_rules.proofs.closing_rules.are_equal_without_marks.Goals as goal

pub returns-in_err-second-clause-grows : goal.returns-in_err-second-clause-grows
returns-in_err-second-clause-grows c = grows_on _ _ _ c.in_ok-first.ensures.grows c.in_err-second.ensures.grows

pub returns-clause-grows : goal.returns-clause-grows
returns-clause-grows c = grows_on _ _ _ c.in_ok-first.ensures.grows c.in_ok-second.ensures.grows

pub returns-clause-decides : goal.returns-clause-decides
returns-clause-decides c =
    let u = c.args.world.now in
    let v = c.without_marks.new.world in
    let w = c.without_marks-2.new.world in
    let a : read w c.in_ok-first.first ≡ erased (read u c.args.a) = c.in_ok-second.ensures.grows.readings c.in_ok-first.first c.in_ok-first.ensures.held ∙ c.in_ok-first.ensures.reads in
    let b : read w c.in_ok-second.second ≡ erased (read u c.args.b) = c.in_ok-second.ensures.reads ∙ ap erased (c.in_ok-first.ensures.grows.readings c.args.b c.requires.b) in
    IfOk-weaker c.are_equal_up_to_names.result _ _
    (λ yes e.
    subst (λ t. IsTrue yes ↔ EqualUpToNames t (erased (read u c.args.b))) a
    (subst (λ t. IsTrue yes ↔ EqualUpToNames (read w c.in_ok-first.first) t) b e)) c.are_equal_up_to_names.ensures

pub returns-in_err-first-clause-declared : goal.returns-in_err-first-clause-declared
returns-in_err-first-clause-declared c =
    let one = c.without_marks.ensures in
    declared_same c.args.world.now c.without_marks.new.world c.requires.world one.grows one.additions one.types

pub returns-in_err-second-clause-declared : goal.returns-in_err-second-clause-declared
returns-in_err-second-clause-declared c =
    let one = c.without_marks.ensures in
    let two = c.without_marks-2.ensures in
    declared_same c.without_marks.new.world c.without_marks-2.new.world one.grows.world two.grows two.additions two.types
    ∙ declared_same c.args.world.now c.without_marks.new.world c.requires.world one.grows one.additions one.types

pub returns-clause-declared : goal.returns-clause-declared
returns-clause-declared c =
    let one = c.without_marks.ensures in
    let two = c.without_marks-2.ensures in
    declared_same c.without_marks.new.world c.without_marks-2.new.world one.grows.world two.grows two.additions two.types
    ∙ declared_same c.args.world.now c.without_marks.new.world c.requires.world one.grows one.additions one.types
