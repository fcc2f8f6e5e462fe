use Rattle.std.proofs.Common.{None, ◌∙◌, ap, sym, subst}
use Rattle.std.specs.Prelude.{if◌then◌else◌}
use Rattle.ab_store.specs.Naming.{NodeIsTyped}
use Rattle.ab_store.specs.Trees.{head_reading}
use Rattle.ab_print.specs.NameAssignment as plain
use Rattle.ab_print.proofs.Etas.{alone_spine, spine_names}
use Rattle.ab_print.proofs.eta.+alone_under.Goals as goal

pub returns-then-are_last-clause-alone : goal.returns-then-are_last-clause-alone
returns-then-are_last-clause-alone t c = λ types.
    c.outside.ensures.outside types c.args.store.now
    ∙ ap (λ w. if w then (plain.outside c.args.binders (head_reading types c.args.store.now c.in-Spine.head)) else None) (sym c.if-are_last.true)
    ∙ sym (alone_spine types c.args.store.now c.args.id c.view.result.now c.in-Spine.head c.in-Spine.args c.as_slice.result.now c.args.binders c.are_last.result
    (c.view.ensures.tree types) c.in-Spine.is c.as_slice.ensures (c.are_last.ensures types))

pub returns-then-are_last-clause-held : goal.returns-then-are_last-clause-held
returns-then-are_last-clause-held t c = λ types typed.
    let names = spine_names _ _ c.view.result.now c.in-Spine.head c.in-Spine.args c.in-Spine.is c.view.ensures.earlier in
    c.outside.ensures.held types c.args.store.now (names.0, subst (NodeIsTyped types) c.in-Spine.is (c.view.ensures.typed types typed))

pub returns-else-are_last-clause-alone : goal.returns-else-are_last-clause-alone
returns-else-are_last-clause-alone t c = λ types.
    ap (λ w. if w then (plain.outside c.args.binders (head_reading types c.args.store.now c.in-Spine.head)) else None) (sym c.if-are_last.false)
    ∙ sym (alone_spine types c.args.store.now c.args.id c.view.result.now c.in-Spine.head c.in-Spine.args c.as_slice.result.now c.args.binders c.are_last.result
    (c.view.ensures.tree types) c.in-Spine.is c.as_slice.ensures (c.are_last.ensures types))
