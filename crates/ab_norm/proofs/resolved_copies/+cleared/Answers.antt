use Rattle.std.proofs.Common.{◌<◌, ◌≤◌, arith, refl, sym, ◌∙◌, subst, get_or}
use Rattle.std.specs.List.{All}
use Rattle.std.proofs.lemmas.List.{take_all}
use Rattle.std.proofs.lemmas.List.Elements.{All-same}
use Rattle.ab_store.specs.declared.node.TermId.{TermId}
use Rattle.ab_store.specs.Bindings.{IsResolved}
use Rattle.ab_norm.proofs.Bounds.{ids_bound, bound_within, below_bound}
use Rattle.ab_norm.proofs.Frame.{if_ok, spine_names}
use Rattle.ab_norm.proofs.Resolved.{resolved_lam, resolved_spine, all_resolved_more, one_more_clear}
use Rattle.ab_norm.proofs.resolved_copies.+cleared.Goals as goal

pub is_clear_node-are_clear-requires : goal.is_clear_node-are_clear-requires
is_clear_node-are_clear-requires t c =
    let names = spine_names _ _ c.view.result.now c.in-Spine.head c.in-Spine.args c.in-Spine.is c.view.ensures.earlier in
    let here : All (λ r. r.0 < c.args.id.0) c.as_slice.result.now = All-same (λ (r : TermId). r.0 < c.args.id.0) _ _ c.as_slice.ensures names.1 in
    let bound : ids_bound c.as_slice.result.now ≤ c.args.id.0 = bound_within c.args.id.0 _ here in
    (omega (arith, bound, c.decreases), (λ k d l. omega (arith, here k d l, c.requires.id), c.requires.seen))

pub is_clear_node-returns-in-Lam-clause-clear : goal.is_clear_node-returns-in-Lam-clause-clear
is_clear_node-returns-in-Lam-clause-clear t c =
    if_ok c.is_clear.result (λ r known. resolved_lam c.args.store.now c.args.id c.view.result.now c.in-Lam.field-0 c.in-Lam.field-1 c.in-Lam.body c.view.ensures.tree c.in-Lam.is r known) c.is_clear.ensures.clear

pub is_clear_node-returns-then-is_free-clause-clear : goal.is_clear_node-returns-then-is_free-clause-clear
is_clear_node-returns-then-is_free-clause-clear t c =
    let whole = resolved_spine c.args.store.now c.args.id c.view.result.now c.in-Spine.head c.in-Spine.args c.view.ensures.tree c.in-Spine.is in
    if_ok c.are_clear.result (λ r known. (
      λ yes. whole.1 (c.is_free.ensures.0 c.if-is_free.true, subst (All (IsResolved c.args.store.now)) c.as_slice.ensures (known.0 yes)),
      λ clear. known.1 (subst (All (IsResolved c.args.store.now)) (sym c.as_slice.ensures) (whole.0 clear).1),
    )) c.are_clear.ensures.clear

pub is_clear_node-returns-else-is_free-clause-clear : goal.is_clear_node-returns-else-is_free-clause-clear
is_clear_node-returns-else-is_free-clause-clear t c =
    let whole = resolved_spine c.args.store.now c.args.id c.view.result.now c.in-Spine.head c.in-Spine.args c.view.ensures.tree c.in-Spine.is in
    (λ e. absurd (cc), λ clear. absurd (let e = sym c.if-is_free.false ∙ c.is_free.ensures.1 (whole.0 clear).0 in cc))

pub is_clear-returns-then-has-clause-clear : goal.is_clear-returns-then-has-clause-clear
is_clear-returns-then-has-clause-clear t c = (λ e. c.requires.seen c.args.id (sym c.has.ensures ∙ c.if-has.true), λ clear. refl)

pub is_clear-returns-in_ok-keep-clause-seen : goal.is_clear-returns-in_ok-keep-clause-seen
is_clear-returns-in_ok-keep-clause-seen t c =
    all_resolved_more c.args.store.now c.is_clear_node.new.seen c.keep.new.self c.args.id c.in_ok-clear.ensures.seen (c.in_ok-clear.ensures.clear.0 c.if-clear.true) c.keep.ensures

pub are_clear-is_clear-requires : goal.are_clear-is_clear-requires
are_clear-is_clear-requires t c =
    let below : (get_or c.args.ids.now c.loop-id.id-index (record { 0 = 0 })).0 < ids_bound c.args.ids.now = below_bound c.args.ids.now c.loop-id.id-index (record { 0 = 0 }) (omega arith) in
    (omega (arith, below, c.decreases), (c.requires.ids c.loop-id.id-index (record { 0 = 0 }) (omega arith), c.loop-id.invariant.seen))

pub are_clear-returns-then-not-branch-clause-clear : goal.are_clear-returns-then-not-branch-clause-clear
are_clear-returns-then-not-branch-clause-clear t c =
    (λ e. absurd (cc), λ clear. absurd (let e = sym c.if-not-branch.true ∙ c.in_ok-is_clear.ensures.clear.1 (clear c.loop-id.id-index (record { 0 = 0 }) (omega arith)) in cc))

pub are_clear-loop-id-preserved : goal.are_clear-loop-id-preserved
are_clear-loop-id-preserved t c = record {
  clear = one_more_clear (IsResolved c.args.store.now) c.args.ids.now c.loop-id.id-index (record { 0 = 0 }) (omega arith) c.loop-id.invariant.clear (c.in_ok-is_clear.ensures.clear.0 c.if-not-branch.false);
  seen = c.in_ok-is_clear.ensures.seen;
}

pub are_clear-returns-clause-clear : goal.are_clear-returns-clause-clear
are_clear-returns-clause-clear t c =
    (λ e. subst (All (IsResolved c.args.store.now)) (take_all c.loop-id.id-index c.args.ids.now (omega arith)) c.loop-id.invariant.clear, λ clear. refl)
