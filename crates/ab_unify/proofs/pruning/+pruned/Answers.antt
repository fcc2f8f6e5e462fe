use Rattle.std.proofs.Common.{◌≡◌, ◌+◌, ◌<◌, ◌≤◌, ◌∷◌, ℕ, suc, refl, List, map, take, length, get_or, cond, true, false, codes, arith, sym, ◌∙◌, ap, subst, take_all}
use Rattle.std.specs.Prelude.{All}
use Rattle.std.proofs.lemmas.List.Elements.{All-same}
use Rattle.std.proofs.lemmas.Result.{on_ok_weaker}
use Rattle.ab_term.specs.Types.{Ty}
use Rattle.ab_term.specs.Terms.{lam, spine, terms_of}
use Rattle.ab_term.specs.Typing.{HasType, TakeType}
use Rattle.ab_term.specs.Abstraction.{under}
use Rattle.ab_term.specs.Variables.{image}
use Rattle.ab_term.specs.Sameness.{same_number}
use Rattle.ab_norm.specs.ab_types.specs.Entries.{signature}
use Rattle.ab_norm.specs.ab_types.specs.Ids.{type_of}
use Rattle.ab_norm.specs.ab_store.specs.declared.node.TermId.{TermId}
use Rattle.ab_norm.specs.ab_store.specs.declared.node.Node.TheVariants.{Lam, Spine}
use Rattle.ab_norm.specs.ab_store.specs.Trees.{Holds, node_tree, tree_of, head_reading}
use Rattle.ab_norm.proofs.Bounds.{ids_bound, bound_within, below_bound}
use Rattle.ab_norm.proofs.Frame.{lam_names, spine_names}
use Rattle.ab_patterns.specs.ab_unifiers.specs.Replacements.{Change, is_flexible, pruned_here, pruned, pruned_all}
use Rattle.ab_patterns.specs.ReadingWalks.{has_been}
use Rattle.ab_unify.specs.Problem.{variables_read}
use Rattle.ab_unify.specs.Pruning.{AllPruned}
use Rattle.ab_unify.specs.StoreChanges.{Changed, AllUnbound, AreNames, IsSomeTerm}
use Rattle.ab_unify.proofs.Growth.{grows_none, grows_on, grown_term}
use Rattle.ab_unify.proofs.Losing.{nothing_made, names_deep, pruned_more, seen_more}
use Rattle.ab_unify.proofs.Pruned.{args_unbound, lam_typed, spine_typed, args_typed, pruned_next, same_trees}
use Rattle.ab_unify.proofs.Joined.{names_more}
use Rattle.ab_unify.proofs.Under.{take_one_more}
use Rattle.ab_unify.proofs.Walked.{head_free}
use Rattle.ab_unify.proofs.pruning.+pruned.Goals as goal

pub prune-returns-then-has-clause-grows : goal.prune-returns-then-has-clause-grows
prune-returns-then-has-clause-grows g t c = grows_none c.args.types.now c.args.store.now c.requires.store

pub prune-returns-then-has-clause-changed : goal.prune-returns-then-has-clause-changed
prune-returns-then-has-clause-changed g t c = λ T S F change was named G B is clear outer depth names_are all.
    let ys = variables_read T S F in
    let long : length c.args.names.now ≡ depth + length outer = names_deep (head_reading T S) c.args.names.now depth outer names_are in
    let seen : has_been c.args.seen.now c.args.term (depth + length outer) ≡ true = ap (has_been c.args.seen.now c.args.term) (sym long) ∙ sym c.has.ensures ∙ c.if-has.true in
    let same : change ≡ pruned (codes "x") ys (map (head_reading T S) c.args.names.now) (tree_of T S c.args.term) change =
    sym (ap (λ hs. pruned (codes "x") ys hs (tree_of T S c.args.term) change) names_are ∙ all c.args.term depth seen) in (
      subst (λ d. Changed T S F d c.args.types.now c.args.store.now c.args.flexible.now.items) same was,
      subst (λ d. AllPruned T S F outer d c.args.seen.now) same all,
    )

pub prune-returns-in_ok-keep-clause-changed : goal.prune-returns-in_ok-keep-clause-changed
prune-returns-in_ok-keep-clause-changed g t c = λ T S F change was named G B is clear outer depth names_are all.
    let ys = variables_read T S F in
    let hs = map (head_reading T S) c.args.names.now in
    let d = pruned (codes "x") ys hs (tree_of T S c.args.term) change in
    let done = c.in_ok-lost.ensures.changed T S F change was named G B is clear outer depth names_are all in
    let same : d ≡ change = nothing_made T S F change d c.args.types.now c.prune_node.new.types c.args.store.now c.prune_node.new.store c.args.flexible.now.items c.prune_node.new.flexible.items was done.0
    (c.in_ok-lost.ensures.still c.if-not-lost.true) (pruned_more (codes "x") ys hs (tree_of T S c.args.term) change) in (
      done.0,
      seen_more T S F outer change d c.prune_node.new.seen c.keep.new.self c.args.term (length c.args.names.now) depth hs names_are
          (names_deep (head_reading T S) c.args.names.now depth outer names_are) refl same done.1 c.in_ok-keep.ensures,
    )

pub prune_node-prune-requires : goal.prune_node-prune-requires
prune_node-prune-requires g t c = λ κs out.
    let types = c.args.types.now in
    let store = c.args.store.now in
    let node : c.view.result.now ≡ Lam c.in-Lam.field-0 c.in-Lam.field-1 c.in-Lam.body = sym c.in_ok-body.ensures ∙ c.in-Lam.is in
    let body = c.in-Lam.body in
    let A = type_of types c.in-Lam.field-0 in
    let x = c.in-Lam.field-1 in
    let low : body.0 < c.args.term.0 = lam_names _ _ c.view.result.now c.in-Lam.field-0 x body node c.view.ensures.earlier in
    let tree_is : tree_of types store c.args.term ≡ lam A x (tree_of types store body) = c.view.ensures.tree types ∙ ap (node_tree types store) node in
    let r = lam_typed (signature types) c.requires.term.0 A c.requires.term.1 x (tree_of types store body) (subst (λ u. HasType (signature types) c.requires.term.0 u c.requires.term.1) tree_is c.requires.term.2.1) in
    let held : body.0 < length store.nodes = omega (arith, low, c.requires.term.2.0) in
    (omega (arith, low, c.decreases), (out, (c.requires.store, (c.requires.free, (subst (AreNames types) (sym c.deref.ensures.value) (c.in_ok-inner-in-Lam.ensures.names types c.requires.names), (A ∷ c.requires.term.0, r.0, (held, r.1)))))))

pub prune_node-returns-in-Lam-clause-changed : goal.prune_node-returns-in-Lam-clause-changed
prune_node-returns-in-Lam-clause-changed g t c = on_ok_weaker c.prune.result (λ done T S F change was named G B is clear outer depth names_are all.
    let types = c.args.types.now in
    let store = c.args.store.now in
    let node : c.view.result.now ≡ Lam c.in-Lam.field-0 c.in-Lam.field-1 c.in-Lam.body = sym c.in_ok-body.ensures ∙ c.in-Lam.is in
    let body = c.in-Lam.body in
    let A = type_of types c.in-Lam.field-0 in
    let x = c.in-Lam.field-1 in
    let low : body.0 < c.args.term.0 = lam_names _ _ c.view.result.now c.in-Lam.field-0 x body node c.view.ensures.earlier in
    let tree_is : tree_of types store c.args.term ≡ lam A x (tree_of types store body) = c.view.ensures.tree types ∙ ap (node_tree types store) node in
    let here : body.0 < length S.nodes = omega (arith, low, is.0) in
    let same : tree_of T S c.args.term ≡ lam A x (tree_of T S body) = sym (was.grows.trees c.args.term is.0).1 ∙ tree_is ∙ ap (lam A x) (was.grows.trees body here).1 in
    let r = lam_typed (signature T) G A B x (tree_of T S body) (subst (λ u. HasType (signature T) G u B) same is.1) in
    let ys = variables_read T S F in
    let inner_names : AreNames T c.deref.result.now = subst (AreNames T) (sym c.deref.ensures.value) (c.in_ok-inner-in-Lam.ensures.names T named) in
    let inner_is : map (head_reading T S) c.deref.result.now ≡ under (map (head_reading T S) c.args.names.now) = ap (map (head_reading T S)) c.deref.ensures.value ∙ c.in_ok-inner-in-Lam.ensures.reads T S in
    let Left : Change (List ℕ) → Type 0 = λ d. Changed T S F d c.prune.new.types c.prune.new.store c.prune.new.flexible.items × AllPruned T S F outer d c.prune.new.seen in
    subst (λ u. Left (pruned (codes "x") ys (map (head_reading T S) c.args.names.now) u change)) (sym same)
    (subst (λ hs. Left (pruned (codes "x") ys hs (tree_of T S body) change)) inner_is
    (done T S F change was inner_names (A ∷ G) r.0 (here, r.1) (subst (AllUnbound S) same clear) outer (suc depth) (inner_is ∙ ap under names_are) all))) c.prune.ensures.changed

pub prune_node-returns-then-was_flexible-clause-changed : goal.prune_node-returns-then-was_flexible-clause-changed
prune_node-returns-then-was_flexible-clause-changed g t c = on_ok_weaker c.prune_flexible.result (λ done T S F change was named G B is clear outer depth names_are all.
    let types = c.args.types.now in
    let store = c.args.store.now in
    let node : c.view.result.now ≡ Spine c.in-Spine.head c.in-Spine.args = sym c.in_ok-body.ensures ∙ c.in-Spine.is in
    let args = c.in-Spine.args in
    let h = head_reading types store c.in-Spine.head in
    let us = terms_of (map (tree_of types store) args) in
    let same : tree_of T S c.args.term ≡ spine h us = sym (was.grows.trees c.args.term is.0).1 ∙ c.view.ensures.tree types ∙ ap (node_tree types store) node in
    let ys = variables_read T S F in
    let hs = map (head_reading T S) c.args.names.now in
    let free = head_free T S F change types store c.args.flexible.now.items was c.args.term is.0 clear c.in-Spine.head us same in
    let flex : is_flexible ys h ≡ true = sym (c.was_flexible.ensures T S F change types was free) ∙ c.if-was_flexible.true in
    let Left : Change (List ℕ) → Type 0 = λ d. Changed T S F d c.prune_flexible.new.types c.prune_flexible.new.store c.prune_flexible.new.flexible.items × AllPruned T S F outer d c.prune_flexible.new.seen in
    subst Left
    (ap (λ u. pruned_here (codes "x") hs (image same_number change.pairs u) change) same
    ∙ sym (ap (λ u. pruned (codes "x") ys hs u change) same
    ∙ ap (λ b. cond b (pruned_here (codes "x") hs (image same_number change.pairs (spine h us)) change) (pruned_all (codes "x") ys hs us change)) flex))
    (done T S F change was named G B is clear F outer all)) c.prune_flexible.ensures.changed

pub prune_node-prune_all-requires : goal.prune_node-prune_all-requires
prune_node-prune_all-requires g t c = λ κs out.
    let types = c.args.types.now in
    let store = c.args.store.now in
    let node : c.view.result.now ≡ Spine c.in-Spine.head c.in-Spine.args = sym c.in_ok-body.ensures ∙ c.in-Spine.is in
    let args = c.in-Spine.args in
    let h = head_reading types store c.in-Spine.head in
    let tree_is : tree_of types store c.args.term ≡ spine h (terms_of (map (tree_of types store) args)) = c.view.ensures.tree types ∙ ap (node_tree types store) node in
    let below : All (λ (r : TermId). r.0 < c.args.term.0) args = (spine_names _ _ c.view.result.now c.in-Spine.head args node c.view.ensures.earlier).1 in
    let G = c.requires.term.0 in
    let here : All (λ (r : TermId). r.0 < c.args.term.0) c.as_slice.result.now = All-same (λ (r : TermId). r.0 < c.args.term.0) _ _ c.as_slice.ensures below in
    let bound : ids_bound c.as_slice.result.now ≤ c.args.term.0 = bound_within c.args.term.0 _ here in
    let r = spine_typed (signature types) G c.requires.term.1 h (terms_of (map (tree_of types store) args)) (subst (λ u. HasType (signature types) G u c.requires.term.1) tree_is c.requires.term.2.1) in
    let typed = args_typed (signature types) G (tree_of types store) args r.0 r.1 r.2 in
    let terms : All (IsSomeTerm types store) args = λ k d l. let p = typed k d l in let held : (get_or args k d).0 < length store.nodes = omega (arith, below k d l, c.requires.term.2.0) in (G, p.0, (held, p.1)) in
    (omega (arith, bound, c.decreases), (out, (c.requires.store, (c.requires.free, (c.requires.names, All-same (IsSomeTerm types store) _ _ c.as_slice.ensures terms)))))

pub prune_node-returns-clause-changed : goal.prune_node-returns-clause-changed
prune_node-returns-clause-changed g t c = on_ok_weaker c.prune_all.result (λ done T S F change was named G B is clear outer depth names_are all.
    let types = c.args.types.now in
    let store = c.args.store.now in
    let node : c.view.result.now ≡ Spine c.in-Spine.head c.in-Spine.args = sym c.in_ok-body.ensures ∙ c.in-Spine.is in
    let args = c.in-Spine.args in
    let h = head_reading types store c.in-Spine.head in
    let tree_is : tree_of types store c.args.term ≡ spine h (terms_of (map (tree_of types store) args)) = c.view.ensures.tree types ∙ ap (node_tree types store) node in
    let below : All (λ (r : TermId). r.0 < c.args.term.0) args = (spine_names _ _ c.view.result.now c.in-Spine.head args node c.view.ensures.earlier).1 in
    let held : All (Holds S) args = λ k d l. omega (arith, below k d l, is.0) in
    let same : tree_of T S c.args.term ≡ spine h (terms_of (map (tree_of T S) args)) =
    sym (was.grows.trees c.args.term is.0).1 ∙ tree_is ∙ ap (λ l. spine h (terms_of l)) (same_trees (tree_of types store) (tree_of T S) args (λ k d l. (was.grows.trees (get_or args k d) (held k d l)).1)) in
    let ys = variables_read T S F in
    let hs = map (head_reading T S) c.args.names.now in
    let r = spine_typed (signature T) G B h (terms_of (map (tree_of T S) args)) (subst (λ u. HasType (signature T) G u B) same is.1) in
    let free = head_free T S F change types store c.args.flexible.now.items was c.args.term is.0 clear c.in-Spine.head (terms_of (map (tree_of T S) args)) same in
    let flex : is_flexible ys h ≡ false = sym (c.was_flexible.ensures T S F change types was free) ∙ c.if-was_flexible.false in
    let Left : Change (List ℕ) → Type 0 = λ d. Changed T S F d c.prune_all.new.types c.prune_all.new.store c.prune_all.new.flexible.items × AllPruned T S F outer d c.prune_all.new.seen in
    let whole = subst (λ l. (H : List Ty) (C D : Ty) → All (Holds S) l → TakeType (signature T) H (terms_of (map (tree_of T S) l)) C D → All (λ t. AllUnbound S (tree_of T S t)) l
    → Left (pruned_all (codes "x") ys hs (terms_of (map (tree_of T S) l)) change)) c.as_slice.ensures (λ H C D l takes free. done T S F change was named H C D l takes free outer depth names_are all) in
    subst Left
    (sym (ap (λ u. pruned (codes "x") ys hs u change) same
    ∙ ap (λ b. cond b (pruned_here (codes "x") hs (image same_number change.pairs (spine h (terms_of (map (tree_of T S) args)))) change) (pruned_all (codes "x") ys hs (terms_of (map (tree_of T S) args)) change)) flex))
    (whole G r.0 r.1 held r.2 (args_unbound types S (tree_of T S) h args (subst (AllUnbound S) same clear)))) c.prune_all.ensures.changed

pub prune_all-prune-requires : goal.prune_all-prune-requires
prune_all-prune-requires g t c = λ κs out.
    let types = c.args.types.now in
    let d : TermId = record { 0 = 0 } in
    let i = c.loop-term.term-index in
    let below : (get_or c.args.terms.now i d).0 < ids_bound c.args.terms.now = below_bound c.args.terms.now i d (omega arith) in
    let some = c.requires.terms i d (omega arith) in
    let grows = c.loop-term.invariant.grows in (
      omega (arith, below, c.decreases),
      (
        out,
        (
          grows.typed,
          (
            c.loop-term.invariant.free,
            (
              names_more types c.loop-term.types grows.table c.args.names.now c.requires.names,
              (some.0, some.1, grown_term types c.loop-term.types c.args.store.now c.loop-term.store grows some.0 (get_or c.args.terms.now i d) some.1 some.2),
            ),
          ),
        ),
      ),
    )

pub prune_all-returns-in_err-pruned-clause-grows : goal.prune_all-returns-in_err-pruned-clause-grows
prune_all-returns-in_err-pruned-clause-grows g t c =
    grows_on c.args.types.now c.loop-term.types c.prune.new.types c.args.store.now c.loop-term.store c.prune.new.store c.loop-term.invariant.grows c.in_err-pruned.ensures.grows

pub prune_all-loop-term-preserved : goal.prune_all-loop-term-preserved
prune_all-loop-term-preserved g t c =
    let d : TermId = record { 0 = 0 } in
    let i = c.loop-term.term-index in
    let terms = c.args.terms.now in
    let low : i < length terms = omega arith in
    let here = c.loop-term.invariant in
    record {
      grows = grows_on c.args.types.now c.loop-term.types c.prune.new.types c.args.store.now c.loop-term.store c.prune.new.store here.grows c.in_ok-pruned.ensures.grows;
      steps = omega (arith, here.steps, c.in_ok-pruned.ensures.steps);
      free = c.in_ok-pruned.ensures.free;
      still = λ e. let both = c.is_either-lost.ensures e in c.in_ok-pruned.ensures.still both.1 ∙ here.still both.0;
      changed = λ T S F change was named G A B held takes clear outer depth names_are all.
          let ys = variables_read T S F in
          let hs = map (head_reading T S) c.args.names.now in
          let so_far = here.changed T S F change was named G A B held takes clear outer depth names_are all in
          let typed = args_typed (signature T) G (tree_of T S) terms A B takes i d low in
          let next = c.in_ok-pruned.ensures.changed T S F (pruned_all (codes "x") ys hs (terms_of (map (tree_of T S) (take i terms))) change) so_far.0 named G typed.0 (held i d low, typed.1) (clear i d low) outer depth names_are so_far.1 in
          subst (λ e. Changed T S F e c.prune.new.types c.prune.new.store c.prune.new.flexible.items × AllPruned T S F outer e c.prune.new.seen)
          (sym (ap (λ l. pruned_all (codes "x") ys hs (terms_of (map (tree_of T S) l)) change) (take_one_more terms i d low) ∙ pruned_next (codes "x") ys hs (tree_of T S) (take i terms) (get_or terms i d) change)) next;
    }

pub prune_all-returns-clause-changed : goal.prune_all-returns-clause-changed
prune_all-returns-clause-changed g t c = λ T S F change was named G A B held takes clear outer depth names_are all.
    subst (λ l.
    let e = pruned_all (codes "x") (variables_read T S F) (map (head_reading T S) c.args.names.now) (terms_of (map (tree_of T S) l)) change in
    Changed T S F e c.loop-term.types c.loop-term.store c.loop-term.flexible.items × AllPruned T S F outer e c.loop-term.seen)
    (take_all c.loop-term.term-index c.args.terms.now (omega arith)) (c.loop-term.invariant.changed T S F change was named G A B held takes clear outer depth names_are all)
