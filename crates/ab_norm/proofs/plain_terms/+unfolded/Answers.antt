use Rattle.std.proofs.Common.{map, ap, sym, subst, ◌∙◌, ◌<◌, ◌≤◌, arith, get_or}
use Rattle.std.specs.List.{All}
use Rattle.std.proofs.lemmas.List.Elements.{All-same, All-push}
use Rattle.ab_store.specs.declared.node.TermId.{TermId}
use Rattle.ab_norm.proofs.Bounds.{ids_bound, bound_within, below_bound}
use Rattle.ab_norm.proofs.Frame.{spine_names}
use Rattle.ab_store.specs.Naming.{NodeIsTyped}
use Rattle.ab_norm.specs.NodeTrees.{tree_reading, HoldsTree}
use Rattle.ab_norm.proofs.Unshared.{unshared, lam_held, spine_held, one_more_read}
use Rattle.ab_norm.proofs.plain_terms.+unfolded.Goals as goal

pub unfold-unfold_all-requires : goal.unfold-unfold_all-requires
unfold-unfold_all-requires t c =
    let names = spine_names _ _ c.view.result.now c.in-Spine.head c.in-Spine.args c.in-Spine.is c.view.ensures.earlier in
    let here : All (λ r. r.0 < c.args.id.0) c.as_slice.result.now = All-same (λ (r : TermId). r.0 < c.args.id.0) _ _ c.as_slice.ensures names.1 in
    let bound : ids_bound c.as_slice.result.now ≤ c.args.id.0 = bound_within c.args.id.0 _ here in
    (omega (arith, bound, c.decreases), λ k d l. omega (arith, here k d l, c.requires))

pub unfold-returns-in_ok-trees-in-Spine-clause-reads : goal.unfold-returns-in_ok-trees-in-Spine-clause-reads
unfold-returns-in_ok-trees-in-Spine-clause-reads t c = λ types.
    unshared types c.args.store.now c.args.id c.view.result.now c.in-Spine.head c.from_vec.result c.in-Spine.args c.as_slice.result.now
    (c.view.ensures.tree types) c.in-Spine.is c.as_slice.ensures (ap (map (tree_reading types c.args.store.now)) c.from_vec.ensures ∙ c.in_ok-trees-in-Spine.ensures.reads types)

pub unfold_all-unfold-requires : goal.unfold_all-unfold-requires
unfold_all-unfold-requires t c =
    let below : (get_or c.args.ids.now c.loop-id.id-index (record { 0 = 0 })).0 < ids_bound c.args.ids.now = below_bound c.args.ids.now c.loop-id.id-index (record { 0 = 0 }) (omega arith) in
    (omega (arith, below, c.decreases), c.requires c.loop-id.id-index (record { 0 = 0 }) (omega arith))

pub unfold-returns-in_ok-trees-in-Spine-clause-held : goal.unfold-returns-in_ok-trees-in-Spine-clause-held
unfold-returns-in_ok-trees-in-Spine-clause-held t c = λ types typed.
    let names = spine_names _ _ c.view.result.now c.in-Spine.head c.in-Spine.args c.in-Spine.is c.view.ensures.earlier in
    spine_held types c.args.store.now c.in-Spine.head c.from_vec.result (subst (NodeIsTyped types) c.in-Spine.is (c.view.ensures.typed types typed)) names.0
    (subst (All (HoldsTree types c.args.store.now)) (sym c.from_vec.ensures) (c.in_ok-trees-in-Spine.ensures.held types typed))

pub unfold-returns-in_ok-new-in-Lam-clause-held : goal.unfold-returns-in_ok-new-in-Lam-clause-held
unfold-returns-in_ok-new-in-Lam-clause-held t c = λ types typed.
    lam_held types c.args.store.now c.in-Lam.ty _ c.in_ok-new-in-Lam.field-0 (subst (NodeIsTyped types) c.in-Lam.is (c.view.ensures.typed types typed))
    (subst (HoldsTree types c.args.store.now) (sym c.in_ok-new-in-Lam.ensures.ok) (c.in_ok-inner-in-Lam.ensures.held types typed))

pub unfold_all-loop-id-preserved : goal.unfold_all-loop-id-preserved
unfold_all-loop-id-preserved t c = record {
  reads = λ types.
      one_more_read types c.args.store.now c.args.ids.now c.loop-id.trees.items c.push.new.self.items c.loop-id.id-index (record { 0 = 0 }) c.in_ok-unfold.field-0 (c.loop-id.invariant.reads types) (c.in_ok-unfold.ensures.reads types) (omega arith) c.in_ok-push.ensures.items;
  held = λ types typed.
      rw c.in_ok-push.ensures.items (All-push (HoldsTree types c.args.store.now) c.loop-id.trees.items c.in_ok-unfold.field-0 (c.loop-id.invariant.held types typed) (c.in_ok-unfold.ensures.held types typed));
}
