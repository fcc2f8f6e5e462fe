use Rattle.std.proofs.Common.{◌<◌, ◌≤◌, arith, refl, sym, ◌∙◌, subst, get_or}
use Rattle.std.specs.List.{All}
use Rattle.std.proofs.lemmas.List.Elements.{All-same}
use Rattle.ab_store.specs.declared.node.TermId.{TermId}
use Rattle.ab_store.specs.Naming.{NodeIsTyped}
use Rattle.ab_norm.proofs.Bounds.{ids_bound, bound_within, below_bound}
use Rattle.ab_norm.proofs.Frame.{if_ok, spine_names}
use Rattle.ab_norm.proofs.Compared.{same_lam, other_type, same_spine, other_head, all_equal, one_differs, other_count, one_more_equal, never, apart, agrees_more}
use Rattle.ab_norm.proofs.equality.+compared.Goals as goal

pub are_equal-returns-then-these-those-clause-same : goal.are_equal-returns-then-these-those-clause-same
are_equal-returns-then-these-those-clause-same t c = λ types ok typed.
    never _ (other_count types c.args.store.now c.args.these.now c.args.those.now c.if-these-those.true)

pub are_equal-is_equal-requires : goal.are_equal-is_equal-requires
are_equal-is_equal-requires t c =
    let below : (get_or c.args.these.now c.loop-i.i (record { 0 = 0 })).0 < ids_bound c.args.these.now = below_bound c.args.these.now c.loop-i.i (record { 0 = 0 }) (omega arith) in
    (omega (arith, below, c.decreases), (c.requires.these c.loop-i.i (record { 0 = 0 }) (omega arith), (c.requires.those c.loop-i.i (record { 0 = 0 }) (omega arith), c.loop-i.invariant.agreed)))

pub are_equal-returns-then-not-branch-clause-same : goal.are_equal-returns-then-not-branch-clause-same
are_equal-returns-then-not-branch-clause-same t c = λ types ok typed.
    never _ (one_differs types c.args.store.now c.args.these.now c.args.those.now c.loop-i.i (record { 0 = 0 }) (omega arith) (omega arith)
    (λ e. let f = sym c.if-not-branch.true ∙ (c.in_ok-is_equal.ensures.same types ok typed).1 e in absurd (cc)))

pub are_equal-loop-i-preserved : goal.are_equal-loop-i-preserved
are_equal-loop-i-preserved t c = record {
  agreed = c.in_ok-is_equal.ensures.agreed;
  same = λ types ok typed.
      one_more_equal types c.args.store.now c.args.these.now c.args.those.now c.loop-i.i (record { 0 = 0 }) (omega arith) (omega arith)
      (c.loop-i.invariant.same types ok typed) ((c.in_ok-is_equal.ensures.same types ok typed).0 c.if-not-branch.false);
}

pub are_equal-returns-clause-same : goal.are_equal-returns-clause-same
are_equal-returns-clause-same t c = λ types ok typed.
    (λ e. all_equal types c.args.store.now c.args.these.now c.args.those.now c.loop-i.i (omega arith) (omega arith) (c.loop-i.invariant.same types ok typed), λ e. refl)

pub compare-are_equal-requires : goal.compare-are_equal-requires
compare-are_equal-requires t c =
    let names = spine_names _ _ c.view.result.now c.in-Spine.head c.in-Spine.args c.in-Spine.is c.view.ensures.earlier in
    let others = spine_names _ _ c.view-in-Spine.result.now c.in-Spine-view-2.other c.in-Spine-view-2.more c.in-Spine-view-2.is c.view-in-Spine.ensures.earlier in
    let here : All (λ r. r.0 < c.args.a.0) c.as_slice.result.now = All-same (λ (r : TermId). r.0 < c.args.a.0) _ _ c.as_slice.ensures names.1 in
    let there : All (λ r. r.0 < c.args.b.0) c.as_slice-then-is_same_head.result.now = All-same (λ (r : TermId). r.0 < c.args.b.0) _ _ c.as_slice-then-is_same_head.ensures others.1 in
    let bound : ids_bound c.as_slice.result.now ≤ c.args.a.0 = bound_within c.args.a.0 _ here in
    (omega (arith, bound, c.decreases), (λ k d l. omega (arith, here k d l, c.requires.a), (λ k d l. omega (arith, there k d l, c.requires.b), c.requires.agreed)))

pub compare-returns-else-is_same_type-clause-same : goal.compare-returns-else-is_same_type-clause-same
compare-returns-else-is_same_type-clause-same t c = λ types ok typed.
    never _ (other_type types c.args.store.now c.args.a c.args.b c.view.result.now c.view-in-Lam.result.now c.in-Lam.ty c.in-Lam-view.other c.in-Lam.field-1 c.in-Lam-view.field-1 c.in-Lam.body c.in-Lam-view.inner
    (c.view.ensures.tree types) c.in-Lam.is (c.view-in-Lam.ensures.tree types) c.in-Lam-view.is ok
    (subst (NodeIsTyped types) c.in-Lam.is (c.view.ensures.typed types typed)) (subst (NodeIsTyped types) c.in-Lam-view.is (c.view-in-Lam.ensures.typed types typed))
    (apart c.is_same_type.result c.if-is_same_type.false c.is_same_type.ensures))

pub compare-returns-then-is_same_type-clause-same : goal.compare-returns-then-is_same_type-clause-same
compare-returns-then-is_same_type-clause-same t c =
    if_ok c.is_equal.result (λ same found types ok typed.
    same_lam types c.args.store.now c.args.a c.args.b c.view.result.now c.view-in-Lam.result.now c.in-Lam.ty c.in-Lam-view.other c.in-Lam.field-1 c.in-Lam-view.field-1 c.in-Lam.body c.in-Lam-view.inner
    (c.view.ensures.tree types) c.in-Lam.is (c.view-in-Lam.ensures.tree types) c.in-Lam-view.is same (c.is_same_type.ensures.0 c.if-is_same_type.true) (found types ok typed)) c.is_equal.ensures.same

pub compare-returns-then-is_same_head-clause-same : goal.compare-returns-then-is_same_head-clause-same
compare-returns-then-is_same_head-clause-same t c =
    if_ok c.are_equal.result (λ same found types ok typed.
    same_spine types c.args.store.now c.args.a c.args.b c.view.result.now c.view-in-Spine.result.now c.in-Spine.head c.in-Spine-view-2.other c.in-Spine.args c.in-Spine-view-2.more
    (c.view.ensures.tree types) c.in-Spine.is (c.view-in-Spine.ensures.tree types) c.in-Spine-view-2.is same (c.is_same_head.ensures.0 c.if-is_same_head.true)
    (rw (← c.as_slice.ensures, ← c.as_slice-then-is_same_head.ensures) (found types ok typed))) c.are_equal.ensures.same

pub compare-returns-else-is_same_head-clause-same : goal.compare-returns-else-is_same_head-clause-same
compare-returns-else-is_same_head-clause-same t c = λ types ok typed.
    never _ (other_head types c.args.store.now c.args.a c.args.b c.view.result.now c.view-in-Spine.result.now c.in-Spine.head c.in-Spine-view-2.other c.in-Spine.args c.in-Spine-view-2.more
    (c.view.ensures.tree types) c.in-Spine.is (c.view-in-Spine.ensures.tree types) c.in-Spine-view-2.is ok
    (subst (NodeIsTyped types) c.in-Spine.is (c.view.ensures.typed types typed)) (subst (NodeIsTyped types) c.in-Spine-view-2.is (c.view-in-Spine.ensures.typed types typed))
    (apart c.is_same_head.result c.if-is_same_head.false c.is_same_head.ensures))

pub is_equal-returns-then-has-clause-same : goal.is_equal-returns-then-has-clause-same
is_equal-returns-then-has-clause-same t c = λ types ok typed. (λ e. c.requires.agreed types ok typed c.args.a c.args.b (sym c.has.ensures ∙ c.if-has.true), λ e. refl)

pub is_equal-returns-in_ok-keep-clause-agreed : goal.is_equal-returns-in_ok-keep-clause-agreed
is_equal-returns-in_ok-keep-clause-agreed t c =
    agrees_more c.args.store.now c.compare.new.agreed c.keep.new.self c.args.a c.args.b c.in_ok-same.ensures.agreed (λ types ok typed. (c.in_ok-same.ensures.same types ok typed).0 c.if-same.true) c.keep.ensures
