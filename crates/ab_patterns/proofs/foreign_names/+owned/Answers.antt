use Rattle.std.proofs.Common.{◌<◌, ◌≤◌, arith, refl, sym, ◌∙◌, subst, get_or}
use Rattle.std.specs.List.{All}
use Rattle.std.proofs.lemmas.Bool.{false≢true}
use Rattle.std.proofs.lemmas.List.{take_all}
use Rattle.std.proofs.lemmas.List.Elements.{All-same}
use Rattle.ab_norm.specs.ab_store.specs.declared.node.TermId.{TermId}
use Rattle.ab_norm.specs.ab_store.specs.Naming.{NodeIsTyped}
use Rattle.ab_norm.proofs.Bounds.{ids_bound, bound_within, below_bound}
use Rattle.ab_norm.proofs.Frame.{if_ok, spine_names}
use Rattle.ab_norm.proofs.Resolved.{one_more_clear}
use Rattle.ab_patterns.specs.ReadingWalks.{IsOwn}
use Rattle.ab_patterns.proofs.Walked.{kept_more, own_lam, own_flexible, own_spine, foreign_here}
use Rattle.ab_patterns.proofs.foreign_names.+owned.Goals as goal

pub is_own_node-are_own-requires : goal.is_own_node-are_own-requires
is_own_node-are_own-requires t c =
    let names = spine_names _ _ c.view.result.now c.in-Spine.head c.in-Spine.args c.in-Spine.is c.view.ensures.earlier in
    let here : All (λ r. r.0 < c.args.id.0) c.as_slice.result.now = All-same (λ (r : TermId). r.0 < c.args.id.0) _ _ c.as_slice.ensures names.1 in
    let bound : ids_bound c.as_slice.result.now ≤ c.args.id.0 = bound_within c.args.id.0 _ here in
    (omega (arith, bound, c.decreases), (c.requires.types, (c.requires.store, (c.requires.names, (λ k d l. omega (arith, here k d l, c.requires.id), c.requires.seen)))))

pub is_own_node-returns-in_ok-below-in-Lam-clause-own : goal.is_own_node-returns-in_ok-below-in-Lam-clause-own
is_own_node-returns-in_ok-below-in-Lam-clause-own t c =
    let types = c.args.types.now in
    if_ok c.is_own.result (λ r known. own_lam types c.args.store.now c.args.cells.now.items c.args.names.now c.args.depth c.in_ok-below-in-Lam.below c.args.id c.view.result.now c.in-Lam.field-0 c.in-Lam.field-1 c.in-Lam.body (c.view.ensures.tree types) c.in-Lam.is c.in_ok-below-in-Lam.ensures r known) c.is_own.ensures.own

pub is_own_node-returns-then-is_flexible-clause-own : goal.is_own_node-returns-then-is_flexible-clause-own
is_own_node-returns-then-is_flexible-clause-own t c =
    let types = c.args.types.now in
    (λ e. own_flexible types c.args.store.now c.args.cells.now.items c.args.names.now c.args.depth c.args.id c.view.result.now c.in-Spine.head c.in-Spine.args (c.view.ensures.tree types) c.in-Spine.is (sym c.if-is_flexible.true ∙ c.is_flexible.ensures types c.args.store.now), λ own. refl)

pub is_own_node-returns-then-may_stand-clause-own : goal.is_own_node-returns-then-may_stand-clause-own
is_own_node-returns-then-may_stand-clause-own t c =
    let types = c.args.types.now in
    let store = c.args.store.now in
    let typed = subst (NodeIsTyped types) c.in-Spine.is (c.view.ensures.typed types c.requires.store) in
    let whole = own_spine types store c.args.cells.now.items c.args.names.now c.args.depth c.args.id c.view.result.now c.in-Spine.head c.in-Spine.args (c.view.ensures.tree types) c.in-Spine.is (sym c.if-is_flexible.false ∙ c.is_flexible.ensures types store) (sym c.if-may_stand.true ∙ c.may_stand.ensures types store c.requires.types c.requires.names typed) in
    if_ok c.are_own.result (λ r known. (
      λ yes. whole.1 (subst (All (IsOwn types store c.args.cells.now.items c.args.names.now c.args.depth)) c.as_slice.ensures (known.0 yes)),
      λ own. known.1 (subst (All (IsOwn types store c.args.cells.now.items c.args.names.now c.args.depth)) (sym c.as_slice.ensures) (whole.0 own)),
    )) c.are_own.ensures.own

pub is_own_node-returns-else-may_stand-clause-own : goal.is_own_node-returns-else-may_stand-clause-own
is_own_node-returns-else-may_stand-clause-own t c =
    let types = c.args.types.now in
    let store = c.args.store.now in
    let typed = subst (NodeIsTyped types) c.in-Spine.is (c.view.ensures.typed types c.requires.store) in
    (λ e. absurd (false≢true e), λ own. absurd (foreign_here types store c.args.cells.now.items c.args.names.now c.args.depth c.args.id c.view.result.now c.in-Spine.head c.in-Spine.args (c.view.ensures.tree types) c.in-Spine.is (sym c.if-is_flexible.false ∙ c.is_flexible.ensures types store) (sym c.if-may_stand.false ∙ c.may_stand.ensures types store c.requires.types c.requires.names typed) own))

pub is_own-returns-then-has-clause-own : goal.is_own-returns-then-has-clause-own
is_own-returns-then-has-clause-own t c = (λ e. c.requires.seen c.args.id c.args.depth (sym c.has.ensures ∙ c.if-has.true), λ own. refl)

pub is_own-returns-in_ok-keep-clause-seen : goal.is_own-returns-in_ok-keep-clause-seen
is_own-returns-in_ok-keep-clause-seen t c =
    kept_more (λ r k. IsOwn c.args.types.now c.args.store.now c.args.cells.now.items c.args.names.now k r) c.is_own_node.new.seen c.keep.new.self c.args.id c.args.depth c.in_ok-own.ensures.seen (c.in_ok-own.ensures.own.0 c.if-own.true) c.keep.ensures

pub are_own-is_own-requires : goal.are_own-is_own-requires
are_own-is_own-requires t c =
    let below : (get_or c.args.ids.now c.loop-id.id-index (record { 0 = 0 })).0 < ids_bound c.args.ids.now = below_bound c.args.ids.now c.loop-id.id-index (record { 0 = 0 }) (omega arith) in
    (omega (arith, below, c.decreases), (c.requires.types, (c.requires.store, (c.requires.names, (c.requires.ids c.loop-id.id-index (record { 0 = 0 }) (omega arith), c.loop-id.invariant.seen)))))

pub are_own-returns-then-not-branch-clause-own : goal.are_own-returns-then-not-branch-clause-own
are_own-returns-then-not-branch-clause-own t c =
    (λ e. absurd (false≢true e), λ own. absurd (false≢true (sym c.if-not-branch.true ∙ c.in_ok-is_own.ensures.own.1 (own c.loop-id.id-index (record { 0 = 0 }) (omega arith)))))

pub are_own-loop-id-preserved : goal.are_own-loop-id-preserved
are_own-loop-id-preserved t c = record {
  own = one_more_clear (IsOwn c.args.types.now c.args.store.now c.args.cells.now.items c.args.names.now c.args.depth) c.args.ids.now c.loop-id.id-index (record { 0 = 0 }) (omega arith) c.loop-id.invariant.own (c.in_ok-is_own.ensures.own.0 c.if-not-branch.false);
  seen = c.in_ok-is_own.ensures.seen;
}

pub are_own-returns-clause-own : goal.are_own-returns-clause-own
are_own-returns-clause-own t c =
    (λ e. subst (All (IsOwn c.args.types.now c.args.store.now c.args.cells.now.items c.args.names.now c.args.depth)) (take_all c.loop-id.id-index c.args.ids.now (omega arith)) c.loop-id.invariant.own, λ own. refl)
