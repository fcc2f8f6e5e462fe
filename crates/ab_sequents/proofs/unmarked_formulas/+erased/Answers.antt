use Rattle.std.proofs.Common.{◌<◌, ◌≤◌, arith, sym, ◌∙◌, get_or, length, subst}
use Rattle.std.specs.List.{All}
use Rattle.std.proofs.lemmas.List.Elements.{All-push, All-same, All-weaker}
use Rattle.ab_norm.specs.ab_store.specs.declared.node.TermId.{TermId}
use Rattle.ab_norm.specs.ab_store.specs.Naming.{HeadNames, NodeIsTyped}
use Rattle.ab_norm.specs.ab_store.specs.Trees.{Holds, tree_of}
use Rattle.ab_formulas.specs.Marks.{erased}
use Rattle.ab_norm.proofs.Bounds.{ids_bound, bound_within, below_bound}
use Rattle.ab_norm.proofs.Frame.{typed_on, typed_more, if_ok, spine_names}
use Rattle.ab_norm.proofs.Renamed.{read_more_before}
use Rattle.ab_sequents.proofs.Erased.{erased_spine}
use Rattle.ab_sequents.proofs.unmarked_formulas.+erased.Goals as goal

pub erase-returns-in-Lam-clause-adds : goal.erase-returns-in-Lam-clause-adds
erase-returns-in-Lam-clause-adds t c =
    let adds = c.in_ok-inner-in-Lam.ensures.adds in
    typed_more c.args.types.now c.args.store.now c.erase.new.store c.lam.new.self adds.before adds.cells c.lam.ensures.before c.lam.ensures.cells
    (c.lam.ensures.typed c.args.types.now adds.typed (subst (NodeIsTyped c.args.types.now) (sym c.in_ok-ty.ensures ∙ c.in-Lam.is) (c.view.ensures.typed c.args.types.now c.requires.store)))

pub erase-erase_spine-requires : goal.erase-erase_spine-requires
erase-erase_spine-requires t c =
    let names = spine_names _ _ c.view.result.now c.in-Spine.head c.in-Spine.args (sym c.in_ok-ty.ensures ∙ c.in-Spine.is) c.view.ensures.earlier in
    let typed = subst (NodeIsTyped c.args.types.now) (sym c.in_ok-ty.ensures ∙ c.in-Spine.is) (c.view.ensures.typed c.args.types.now c.requires.store) in
    let here : All (λ r. r.0 < c.args.id.0) c.as_slice-in-ByScope.result.now = All-same (λ (r : TermId). r.0 < c.args.id.0) _ _ c.as_slice-in-ByScope.ensures names.1 in
    let bound : ids_bound c.as_slice-in-ByScope.result.now ≤ c.args.id.0 = bound_within c.args.id.0 _ here in
    (omega (arith, bound, c.decreases), (c.requires.store, (names.0, (typed, λ k d l. omega (arith, here k d l, c.requires.id)))))

pub erase-erase_spine-requires-in-ByParts : goal.erase-erase_spine-requires-in-ByParts
erase-erase_spine-requires-in-ByParts t c =
    let names = spine_names _ _ c.view.result.now c.in-Spine.head c.in-Spine.args (sym c.in_ok-ty.ensures ∙ c.in-Spine.is) c.view.ensures.earlier in
    let typed = subst (NodeIsTyped c.args.types.now) (sym c.in_ok-ty.ensures ∙ c.in-Spine.is) (c.view.ensures.typed c.args.types.now c.requires.store) in
    let here : All (λ r. r.0 < c.args.id.0) c.as_slice-in-ByParts.result.now = All-same (λ (r : TermId). r.0 < c.args.id.0) _ _ c.as_slice-in-ByParts.ensures names.1 in
    let bound : ids_bound c.as_slice-in-ByParts.result.now ≤ c.args.id.0 = bound_within c.args.id.0 _ here in
    (omega (arith, bound, c.decreases), (c.requires.store, (names.0, (typed, λ k d l. omega (arith, here k d l, c.requires.id)))))

pub erase_all-erase-requires : goal.erase_all-erase-requires
erase_all-erase-requires t c =
    let below : (get_or c.args.ids.now c.loop-id.id-index (record { 0 = 0 })).0 < ids_bound c.args.ids.now = below_bound c.args.ids.now c.loop-id.id-index (record { 0 = 0 }) (omega arith) in
    let adds = c.loop-id.invariant.adds in
    (omega (arith, below, c.decreases), (adds.typed, adds.before.ids _ (c.requires.ids c.loop-id.id-index (record { 0 = 0 }) (omega arith))))

pub erase_all-returns-in_err-erase-clause-adds : goal.erase_all-returns-in_err-erase-clause-adds
erase_all-returns-in_err-erase-clause-adds t c = typed_on c.args.types.now c.args.store.now c.loop-id.store c.erase.new.store c.loop-id.invariant.adds c.in_err-erase.ensures.adds

pub erase_all-returns-in_err-push-clause-adds : goal.erase_all-returns-in_err-push-clause-adds
erase_all-returns-in_err-push-clause-adds t c = typed_on c.args.types.now c.args.store.now c.loop-id.store c.erase.new.store c.loop-id.invariant.adds c.in_ok-erase.ensures.adds

pub erase_all-loop-id-preserved : goal.erase_all-loop-id-preserved
erase_all-loop-id-preserved t c =
    let before = c.loop-id.invariant in
    let made = c.in_ok-erase.ensures in
    record {
      adds = typed_on c.args.types.now c.args.store.now c.loop-id.store c.erase.new.store before.adds made.adds;
      held = rw c.in_ok-push.ensures.items (All-push (Holds c.erase.new.store) c.loop-id.made.items c.in_ok-erase.field-0 (All-weaker (Holds c.loop-id.store) (Holds c.erase.new.store) made.adds.before.ids c.loop-id.made.items before.held) made.held);
      reads = read_more_before c.args.types.now erased c.args.store.now c.loop-id.store c.erase.new.store c.args.ids.now c.loop-id.made.items c.push.new.self.items c.loop-id.id-index (record { 0 = 0 }) c.in_ok-erase.field-0
          before.adds.before made.adds.before c.requires.ids before.held before.reads made.reads (omega arith) c.in_ok-push.ensures.items;
    }

pub erase_spine-returns-clause-reads : goal.erase_spine-returns-clause-reads
erase_spine-returns-clause-reads t c =
    if_ok c.spine.result (λ r made.
    erased_spine c.args.types.now c.args.store.now c.erase_all.new.store c.spine.new.self r c.args.head c.args.args.now c.in_ok-given.given.items
    c.in_ok-given.ensures.adds.cells c.in_ok-given.ensures.reads (made c.args.types.now)) c.spine.ensures.tree

pub erase_spine-returns-clause-adds : goal.erase_spine-returns-clause-adds
erase_spine-returns-clause-adds t c =
    let adds = c.in_ok-given.ensures.adds in
    typed_more c.args.types.now c.args.store.now c.erase_all.new.store c.spine.new.self adds.before adds.cells c.spine.ensures.before c.spine.ensures.cells
    (c.spine.ensures.typed c.args.types.now adds.typed c.requires.typed)
