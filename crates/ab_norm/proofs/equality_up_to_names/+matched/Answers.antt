use Rattle.std.proofs.Common.{◌≡◌, ◌<◌, ◌≤◌, arith, sym, ◌∙◌, subst, get_or, map, take, true, false, ◌+◌}
use Rattle.std.specs.List.{All}
use Rattle.std.proofs.lemmas.List.Elements.{All-same}
use Rattle.ab_term.specs.Terms.{terms_of}
use Rattle.ab_term.specs.Translation.{forget, forget_all}
use Rattle.ab_term.specs.Names.{rename, rename_all}
use Rattle.ab_store.specs.declared.node.TermId.{TermId}
use Rattle.ab_store.specs.Naming.{NodeIsTyped}
use Rattle.ab_store.specs.Trees.{tree_of}
use Rattle.ab_norm.proofs.Bounds.{ids_bound, bound_within, below_bound}
use Rattle.ab_norm.proofs.Frame.{if_ok, spine_names}
use Rattle.ab_norm.proofs.Compared.{bare, apart}
use Rattle.ab_norm.proofs.Matched.{image, found_same, found_never, found_both, found_fails, found_then_fails, found_as, matched_lam, unmatched_lam, matched_spine, counts_differ, all_taken, place_matches, prefix_matches, lists_match, one_more, matches_on, matches_more, found_known, fixed_matches}
use Rattle.ab_norm.proofs.equality_up_to_names.+matched.Goals as goal

pub match_all-returns-then-these-those-clause-found : goal.match_all-returns-then-these-those-clause-found
match_all-returns-then-these-those-clause-found t c =
    let types = c.args.types.now in let ok = c.requires.types in let typed = c.requires.store in let held = c.requires.held in
    found_never types c.args.decided.now.items (λ f. forget_all (rename_all f (terms_of (map (tree_of types c.args.store.now) c.args.these.now))) ≡ forget_all (terms_of (map (tree_of types c.args.store.now) c.args.those.now)))
    held (λ f r. counts_differ types c.args.store.now f c.args.these.now c.args.those.now c.if-these-those.true)

pub match_all-match_terms-requires : goal.match_all-match_terms-requires
match_all-match_terms-requires t c =
    let below : (get_or c.args.these.now c.loop-i.i (record { 0 = 0 })).0 < ids_bound c.args.these.now = below_bound c.args.these.now c.loop-i.i (record { 0 = 0 }) (omega arith) in
    (omega (arith, below, c.decreases), (c.requires.types, (c.requires.store, (c.requires.these c.loop-i.i (record { 0 = 0 }) (omega arith), (c.requires.those c.loop-i.i (record { 0 = 0 }) (omega arith), (c.loop-i.invariant.one, (c.loop-i.invariant.found.held, c.loop-i.invariant.agreed)))))))

pub match_all-returns-then-not-branch-clause-found : goal.match_all-returns-then-not-branch-clause-found
match_all-returns-then-not-branch-clause-found t c =
    let types = c.args.types.now in let ok = c.requires.types in let typed = c.requires.store in let held = c.requires.held in
    let first = c.loop-i.invariant.found in
    let second = found_as types c.loop-i.decided.items c.match_terms.new.decided.items _ c.in_ok-match_terms.field-0 false c.if-not-branch.true c.in_ok-match_terms.ensures.found in
    found_then_fails types c.args.decided.now.items c.loop-i.decided.items c.match_terms.new.decided.items _ _
    (λ f. forget_all (rename_all f (terms_of (map (tree_of types c.args.store.now) c.args.these.now))) ≡ forget_all (terms_of (map (tree_of types c.args.store.now) c.args.those.now)))
    first second (λ f e. (
      prefix_matches types c.args.store.now f c.args.these.now c.args.those.now c.loop-i.i (omega arith) ((lists_match types c.args.store.now f c.args.these.now c.args.those.now).1 e),
      place_matches types c.args.store.now f c.args.these.now c.args.those.now c.loop-i.i (record { 0 = 0 }) (omega arith) (omega arith) e,
    ))

pub match_all-loop-i-preserved : goal.match_all-loop-i-preserved
match_all-loop-i-preserved t c =
    let types = c.args.types.now in
    let first = c.loop-i.invariant.found in
    let second = found_as types c.loop-i.decided.items c.match_terms.new.decided.items _ c.in_ok-match_terms.field-0 true c.if-not-branch.false c.in_ok-match_terms.ensures.found in
    record {
      one = c.in_ok-match_terms.ensures.one;
      found = found_both types c.args.decided.now.items c.loop-i.decided.items c.match_terms.new.decided.items _ _
          (λ f. map (image types c.args.store.now f) (take (c.loop-i.i + 1) c.args.these.now) ≡ map (bare types c.args.store.now) (take (c.loop-i.i + 1) c.args.those.now)) true
          first second (λ f. one_more types c.args.store.now f c.args.these.now c.args.those.now c.loop-i.i (record { 0 = 0 }) (omega arith) (omega arith));
      agreed = c.in_ok-match_terms.ensures.agreed;
    }

pub match_all-returns-clause-found : goal.match_all-returns-clause-found
match_all-returns-clause-found t c =
    let types = c.args.types.now in let ok = c.requires.types in let typed = c.requires.store in let held = c.requires.held in
    found_same types c.args.decided.now.items c.loop-i.decided.items _
    (λ f. forget_all (rename_all f (terms_of (map (tree_of types c.args.store.now) c.args.these.now))) ≡ forget_all (terms_of (map (tree_of types c.args.store.now) c.args.those.now))) true
    (λ f. all_taken types c.args.store.now f c.args.these.now c.args.those.now c.loop-i.i (omega arith) (omega arith)) (c.loop-i.invariant.found)

pub match_nodes-match_all-requires : goal.match_nodes-match_all-requires
match_nodes-match_all-requires t c =
    let names = spine_names _ _ c.view.result.now c.in-Spine.head c.in-Spine.args c.in-Spine.is c.view.ensures.earlier in
    let others = spine_names _ _ c.view-in-Spine.result.now c.in-Spine-view-2.other c.in-Spine-view-2.more c.in-Spine-view-2.is c.view-in-Spine.ensures.earlier in
    let here : All (λ r. r.0 < c.args.a.0) c.as_slice.result.now = All-same (λ (r : TermId). r.0 < c.args.a.0) _ _ c.as_slice.ensures names.1 in
    let there : All (λ r. r.0 < c.args.b.0) c.as_slice-then-branch.result.now = All-same (λ (r : TermId). r.0 < c.args.b.0) _ _ c.as_slice-then-branch.ensures others.1 in
    let bound : ids_bound c.as_slice.result.now ≤ c.args.a.0 = bound_within c.args.a.0 _ here in
    let heads = c.in_ok-match_heads-in-Spine-view-2.ensures.found c.args.types.now c.args.store.now c.requires.types (subst (NodeIsTyped c.args.types.now) c.in-Spine.is (c.view.ensures.typed c.args.types.now c.requires.store)) (subst (NodeIsTyped c.args.types.now) c.in-Spine-view-2.is (c.view-in-Spine.ensures.typed c.args.types.now c.requires.store)) c.requires.held in (
      omega (arith, bound, c.decreases),
      (
        c.requires.types,
        (
          c.requires.store,
          (
            λ k d l. omega (arith, here k d l, c.requires.a),
            (
              λ k d l. omega (arith, there k d l, c.requires.b),
              (
                c.in_ok-match_heads-in-Spine-view-2.ensures.one,
                (
                  heads.held,
                  matches_on c.args.types.now c.args.store.now c.args.decided.now.items c.match_heads.new.decided.items c.args.agreed.now heads.before c.requires.agreed,
                ),
              ),
            ),
          ),
        ),
      ),
    )

pub match_nodes-returns-then-is_same_type-clause-found : goal.match_nodes-returns-then-is_same_type-clause-found
match_nodes-returns-then-is_same_type-clause-found t c =
    if_ok c.match_terms.result (λ answer found.
    let types = c.args.types.now in let ok = c.requires.types in let typed = c.requires.store in let held = c.requires.held in
    found_same types c.args.decided.now.items c.match_terms.new.decided.items _ (λ f. forget (rename f (tree_of types c.args.store.now c.args.a)) ≡ forget (tree_of types c.args.store.now c.args.b)) answer
    (λ f. matched_lam types c.args.store.now f c.args.a c.args.b c.view.result.now c.view-in-Lam.result.now c.in-Lam.ty c.in-Lam-view.other c.in-Lam.field-1 c.in-Lam-view.field-1 c.in-Lam.body c.in-Lam-view.inner
    (c.view.ensures.tree types) c.in-Lam.is (c.view-in-Lam.ensures.tree types) c.in-Lam-view.is (c.is_same_type.ensures.0 c.if-is_same_type.true)) found) c.match_terms.ensures.found

pub match_nodes-returns-else-is_same_type-clause-found : goal.match_nodes-returns-else-is_same_type-clause-found
match_nodes-returns-else-is_same_type-clause-found t c =
    let types = c.args.types.now in let ok = c.requires.types in let typed = c.requires.store in let held = c.requires.held in
    found_never types c.args.decided.now.items (λ f. forget (rename f (tree_of types c.args.store.now c.args.a)) ≡ forget (tree_of types c.args.store.now c.args.b)) held
    (λ f r. unmatched_lam types c.args.store.now f c.args.a c.args.b c.view.result.now c.view-in-Lam.result.now c.in-Lam.ty c.in-Lam-view.other c.in-Lam.field-1 c.in-Lam-view.field-1 c.in-Lam.body c.in-Lam-view.inner
    (c.view.ensures.tree types) c.in-Lam.is (c.view-in-Lam.ensures.tree types) c.in-Lam-view.is ok
    (subst (NodeIsTyped types) c.in-Lam.is (c.view.ensures.typed types typed)) (subst (NodeIsTyped types) c.in-Lam-view.is (c.view-in-Lam.ensures.typed types typed))
    (apart c.is_same_type.result c.if-is_same_type.false c.is_same_type.ensures))

pub match_nodes-returns-then-branch-clause-found : goal.match_nodes-returns-then-branch-clause-found
match_nodes-returns-then-branch-clause-found t c =
    if_ok c.match_all.result (λ answer found.
    let types = c.args.types.now in let ok = c.requires.types in let typed = c.requires.store in let held = c.requires.held in
    let heads = found_as types c.args.decided.now.items c.match_heads.new.decided.items _ c.in_ok-match_heads-in-Spine-view-2.field-0 true c.if-branch.true
    (c.in_ok-match_heads-in-Spine-view-2.ensures.found types c.args.store.now ok (subst (NodeIsTyped types) c.in-Spine.is (c.view.ensures.typed types typed)) (subst (NodeIsTyped types) c.in-Spine-view-2.is (c.view-in-Spine.ensures.typed types typed)) held) in
    found_both types c.args.decided.now.items c.match_heads.new.decided.items c.match_all.new.decided.items _ _
    (λ f. forget (rename f (tree_of types c.args.store.now c.args.a)) ≡ forget (tree_of types c.args.store.now c.args.b)) answer heads
    (rw (← c.as_slice.ensures, ← c.as_slice-then-branch.ensures) found)
    (λ f. matched_spine types c.args.store.now f c.args.a c.args.b c.view.result.now c.view-in-Spine.result.now c.in-Spine.head c.in-Spine-view-2.other c.in-Spine.args c.in-Spine-view-2.more
    (c.view.ensures.tree types) c.in-Spine.is (c.view-in-Spine.ensures.tree types) c.in-Spine-view-2.is)) c.match_all.ensures.found

pub match_nodes-returns-else-branch-clause-found : goal.match_nodes-returns-else-branch-clause-found
match_nodes-returns-else-branch-clause-found t c =
    let types = c.args.types.now in let ok = c.requires.types in let typed = c.requires.store in let held = c.requires.held in
    let heads = found_as types c.args.decided.now.items c.match_heads.new.decided.items _ c.in_ok-match_heads-in-Spine-view-2.field-0 false c.if-branch.false
    (c.in_ok-match_heads-in-Spine-view-2.ensures.found types c.args.store.now ok (subst (NodeIsTyped types) c.in-Spine.is (c.view.ensures.typed types typed)) (subst (NodeIsTyped types) c.in-Spine-view-2.is (c.view-in-Spine.ensures.typed types typed)) held) in
    found_fails types c.args.decided.now.items c.match_heads.new.decided.items _ (λ f. forget (rename f (tree_of types c.args.store.now c.args.a)) ≡ forget (tree_of types c.args.store.now c.args.b)) heads
    (λ f e. ((matched_spine types c.args.store.now f c.args.a c.args.b c.view.result.now c.view-in-Spine.result.now c.in-Spine.head c.in-Spine-view-2.other c.in-Spine.args c.in-Spine-view-2.more
    (c.view.ensures.tree types) c.in-Spine.is (c.view-in-Spine.ensures.tree types) c.in-Spine-view-2.is).0 e).0)

pub match_nodes-returns-else-branch-clause-agreed : goal.match_nodes-returns-else-branch-clause-agreed
match_nodes-returns-else-branch-clause-agreed t c =
    let heads = c.in_ok-match_heads-in-Spine-view-2.ensures.found c.args.types.now c.args.store.now c.requires.types (subst (NodeIsTyped c.args.types.now) c.in-Spine.is (c.view.ensures.typed c.args.types.now c.requires.store)) (subst (NodeIsTyped c.args.types.now) c.in-Spine-view-2.is (c.view-in-Spine.ensures.typed c.args.types.now c.requires.store)) c.requires.held in
    matches_on c.args.types.now c.args.store.now c.args.decided.now.items c.match_heads.new.decided.items c.args.agreed.now heads.before c.requires.agreed

pub match_terms-returns-then-is_fixed-clause-found : goal.match_terms-returns-then-is_fixed-clause-found
match_terms-returns-then-is_fixed-clause-found t c =
    let fixed = c.is_fixed.ensures c.if-is_fixed.true in
    found_known c.args.types.now c.args.decided.now.items _ c.requires.held (λ f s. fixed_matches f c.args.types.now c.args.store.now c.args.a c.args.b fixed.0 (fixed.1 c.args.types.now))

pub match_terms-returns-then-has-clause-found : goal.match_terms-returns-then-has-clause-found
match_terms-returns-then-has-clause-found t c =
    found_known c.args.types.now c.args.decided.now.items _ c.requires.held (c.requires.agreed c.args.a c.args.b (sym c.has.ensures ∙ c.if-has.true))

pub match_terms-returns-in_ok-keep-clause-agreed : goal.match_terms-returns-in_ok-keep-clause-agreed
match_terms-returns-in_ok-keep-clause-agreed t c =
    matches_more c.args.types.now c.args.store.now c.match_nodes.new.decided.items c.match_nodes.new.agreed c.keep.new.self c.args.a c.args.b c.in_ok-matches.ensures.agreed (c.in_ok-matches.ensures.found.sound c.if-matches.true) c.keep.ensures
