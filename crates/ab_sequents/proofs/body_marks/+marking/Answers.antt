use Rattle.std.proofs.Common.{◌<◌, ◌≤◌, arith, sym, ◌∙◌, get_or, length, subst}
use Rattle.std.specs.List.{All}
use Rattle.std.proofs.lemmas.List.Elements.{All-push, All-same, All-weaker}
use Rattle.ab_norm.specs.ab_store.specs.declared.node.TermId.{TermId}
use Rattle.ab_norm.specs.ab_store.specs.Naming.{HeadNames, NodeIsTyped}
use Rattle.ab_norm.specs.ab_store.specs.Trees.{Holds, tree_of}
use Rattle.ab_logic.specs.Forms.{sign_of}
use Rattle.ab_formulas.specs.BodyMarks.{marked_in}
use Rattle.ab_sequents.specs.HeadMarks.{names_of}
use Rattle.ab_norm.proofs.Bounds.{ids_bound, bound_within, below_bound}
use Rattle.ab_norm.proofs.Frame.{typed_on, typed_more, if_ok, spine_names}
use Rattle.ab_norm.proofs.Renamed.{read_more_before}
use Rattle.ab_sequents.proofs.MarkedAtoms.{marked_spine}
use Rattle.ab_sequents.proofs.body_marks.+marking.Goals as goal

pub mark-returns-in-Lam-clause-adds : goal.mark-returns-in-Lam-clause-adds
mark-returns-in-Lam-clause-adds t c =
    let adds = c.in_ok-inner-in-Lam.ensures.adds in
    typed_more c.args.types.now c.args.store.now c.mark.new.store c.lam.new.self adds.before adds.cells c.lam.ensures.before c.lam.ensures.cells
    (c.lam.ensures.typed c.args.types.now adds.typed (subst (NodeIsTyped c.args.types.now) (sym c.in_ok-ty.ensures ∙ c.in-Lam.is) (c.view.ensures.typed c.args.types.now c.requires.store)))

pub mark-mark_spine-requires : goal.mark-mark_spine-requires
mark-mark_spine-requires t c =
    let names = spine_names _ _ c.view.result.now c.in-Spine.head c.in-Spine.args (sym c.in_ok-ty.ensures ∙ c.in-Spine.is) c.view.ensures.earlier in
    let typed = subst (NodeIsTyped c.args.types.now) (sym c.in_ok-ty.ensures ∙ c.in-Spine.is) (c.view.ensures.typed c.args.types.now c.requires.store) in
    let here : All (λ r. r.0 < c.args.id.0) c.as_slice.result.now = All-same (λ (r : TermId). r.0 < c.args.id.0) _ _ c.as_slice.ensures names.1 in
    let bound : ids_bound c.as_slice.result.now ≤ c.args.id.0 = bound_within c.args.id.0 _ here in
    (omega (arith, bound, c.decreases), (c.requires.store, (c.requires.predicates, (names.0, (typed, λ k d l. omega (arith, here k d l, c.requires.id))))))

pub mark-mark_spine-requires-in-ByParts : goal.mark-mark_spine-requires-in-ByParts
mark-mark_spine-requires-in-ByParts t c =
    let names = spine_names _ _ c.view.result.now c.in-Spine.head c.in-Spine.args (sym c.in_ok-ty.ensures ∙ c.in-Spine.is) c.view.ensures.earlier in
    let typed = subst (NodeIsTyped c.args.types.now) (sym c.in_ok-ty.ensures ∙ c.in-Spine.is) (c.view.ensures.typed c.args.types.now c.requires.store) in
    let here : All (λ r. r.0 < c.args.id.0) c.as_slice-in-ByParts.result.now = All-same (λ (r : TermId). r.0 < c.args.id.0) _ _ c.as_slice-in-ByParts.ensures names.1 in
    let bound : ids_bound c.as_slice-in-ByParts.result.now ≤ c.args.id.0 = bound_within c.args.id.0 _ here in
    (omega (arith, bound, c.decreases), (c.requires.store, (c.requires.predicates, (names.0, (typed, λ k d l. omega (arith, here k d l, c.requires.id))))))

pub mark_all-mark-requires : goal.mark_all-mark-requires
mark_all-mark-requires t c =
    let below : (get_or c.args.ids.now c.loop-id.id-index (record { 0 = 0 })).0 < ids_bound c.args.ids.now = below_bound c.args.ids.now c.loop-id.id-index (record { 0 = 0 }) (omega arith) in
    let adds = c.loop-id.invariant.adds in
    (omega (arith, below, c.decreases), (adds.typed, (c.requires.predicates, adds.before.ids _ (c.requires.ids c.loop-id.id-index (record { 0 = 0 }) (omega arith)))))

pub mark_all-returns-in_err-mark-clause-adds : goal.mark_all-returns-in_err-mark-clause-adds
mark_all-returns-in_err-mark-clause-adds t c = typed_on c.args.types.now c.args.store.now c.loop-id.store c.mark.new.store c.loop-id.invariant.adds c.in_err-mark.ensures.adds

pub mark_all-returns-in_err-push-clause-adds : goal.mark_all-returns-in_err-push-clause-adds
mark_all-returns-in_err-push-clause-adds t c = typed_on c.args.types.now c.args.store.now c.loop-id.store c.mark.new.store c.loop-id.invariant.adds c.in_ok-mark.ensures.adds

pub mark_all-loop-id-preserved : goal.mark_all-loop-id-preserved
mark_all-loop-id-preserved t c =
    let before = c.loop-id.invariant in
    let made = c.in_ok-mark.ensures in
    record {
      adds = typed_on c.args.types.now c.args.store.now c.loop-id.store c.mark.new.store before.adds made.adds;
      held = rw c.in_ok-push.ensures.items (All-push (Holds c.mark.new.store) c.loop-id.made.items c.in_ok-mark.field-0 (All-weaker (Holds c.loop-id.store) (Holds c.mark.new.store) made.adds.before.ids c.loop-id.made.items before.held) made.held);
      reads = read_more_before c.args.types.now (marked_in (names_of c.args.types.now c.args.predicates.now) (sign_of c.args.sign)) c.args.store.now c.loop-id.store c.mark.new.store c.args.ids.now c.loop-id.made.items c.push.new.self.items c.loop-id.id-index (record { 0 = 0 }) c.in_ok-mark.field-0
          before.adds.before made.adds.before c.requires.ids before.held before.reads made.reads (omega arith) c.in_ok-push.ensures.items;
    }

pub mark_spine-returns-clause-reads : goal.mark_spine-returns-clause-reads
mark_spine-returns-clause-reads t c =
    if_ok c.spine.result (λ r made.
    marked_spine (names_of c.args.types.now c.args.predicates.now) (sign_of c.args.sign) c.args.types.now c.args.store.now c.mark_all.new.store c.spine.new.self r c.args.head c.args.args.now c.in_ok-given.given.items
    c.in_ok-given.ensures.adds.cells c.in_ok-given.ensures.reads (made c.args.types.now)) c.spine.ensures.tree

pub mark_spine-returns-clause-adds : goal.mark_spine-returns-clause-adds
mark_spine-returns-clause-adds t c =
    let adds = c.in_ok-given.ensures.adds in
    typed_more c.args.types.now c.args.store.now c.mark_all.new.store c.spine.new.self adds.before adds.cells c.spine.ensures.before c.spine.ensures.cells
    (c.spine.ensures.typed c.args.types.now adds.typed c.requires.typed)

pub mark-is_predicate-requires-clause-head : goal.mark-is_predicate-requires-clause-head
mark-is_predicate-requires-clause-head t c = subst (NodeIsTyped c.args.types.now) (sym c.in_ok-ty.ensures ∙ c.in-Spine.is) (c.view.ensures.typed c.args.types.now c.requires.store)

pub mark-returns-then-is_predicate-clause-adds : goal.mark-returns-then-is_predicate-clause-adds
mark-returns-then-is_predicate-clause-adds t c = record { before = c.mark_formula.ensures.adds.before; cells = c.mark_formula.ensures.adds.cells; typed = c.mark_formula.ensures.adds.typed c.args.types.now c.requires.store }
