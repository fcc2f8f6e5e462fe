use Rattle.std.proofs.Common.{add-one, ◌+◌, ◌<◌, ◌≤◌, arith, ap, sym, ◌∙◌, subst, get_or, length}
use Rattle.std.specs.List.{All}
use Rattle.std.proofs.lemmas.List.Elements.{All-push, All-same}
use Rattle.ab_store.specs.declared.node.TermId.{TermId}
use Rattle.ab_store.specs.declared.node.Binding.{Binding}
use Rattle.ab_store.specs.Trees.{Holds, tree_of}
use Rattle.ab_norm.specs.ResolvedTerms.{put_first, Becomes, IsTurn}
use Rattle.ab_norm.proofs.Bounds.{ids_bound, bound_within, below_bound}
use Rattle.ab_norm.proofs.Changed.{always_ok}
use Rattle.ab_norm.proofs.Frame.{adds_on, adds_lam, adds_spine, read_more, still_held, still_held_head, spine_names, lam_names}
use Rattle.ab_norm.proofs.PutIn.{put_on, keeps_on, keeps_more, becomes_on, becomes_same, all_still, all_become, put_there, put_lam, put_spine, put_bound, put_rest, left_body, left_args, left_one, left_made}
use Rattle.ab_norm.proofs.bindings_put_in.+resolved.Goals as goal

abbrev nothing : Binding
nothing = record { cell = record { 0 = 0 }; term = record { 0 = 0 } }

pub resolve-returns-in-Some-clause-memo : goal.resolve-returns-in-Some-clause-memo
resolve-returns-in-Some-clause-memo g t c =
    let T = c.args.types.now in
    let s = c.heads.store in
    let whole = put_first T c.args.store.now c.args.count (tree_of T c.args.store.now c.args.id) in
    let before = c.heads.invariant in
    let found = c.in-Some.ensures.known T before.memo in
    always_ok c.keep_for_all.result (c.keep_for_all.ensures.memo T s before.memo found.0
    (all_become T s c.args.count whole (tree_of T s c.in-Some.answer) (put_first T s c.args.count (tree_of T s c.heads.here)) c.heads.passed.items c.deref.result.now c.deref.ensures.value found.1 before.here.1 before.passed))

pub resolve-resolve_node-requires : goal.resolve-resolve_node-requires
resolve-resolve_node-requires g t c = λ κs out.
    let before = c.heads.invariant in
    (omega (arith, before.smaller, c.decreases), (out, (c.requires.types, (before.adds.typed c.args.types.now c.requires.store, (omega (arith, c.requires.count, ap length before.adds.before.bindings), (before.here.0, before.memo))))))

pub resolve-returns-in_err-made-clause-adds : goal.resolve-returns-in_err-made-clause-adds
resolve-returns-in_err-made-clause-adds g t c = adds_on c.args.store.now c.heads.store c.resolve_node.new.store c.heads.invariant.adds c.in_err-made.ensures.adds

pub resolve-returns-in_err-keep-in-Made-clause-adds : goal.resolve-returns-in_err-keep-in-Made-clause-adds
resolve-returns-in_err-keep-in-Made-clause-adds g t c = adds_on c.args.store.now c.heads.store c.resolve_node.new.store c.heads.invariant.adds c.in_ok-made.ensures.adds

pub resolve-returns-in-Made-clause-adds : goal.resolve-returns-in-Made-clause-adds
resolve-returns-in-Made-clause-adds g t c = adds_on c.args.store.now c.heads.store c.resolve_node.new.store c.heads.invariant.adds c.in_ok-made.ensures.adds

pub resolve-returns-in-Made-clause-memo : goal.resolve-returns-in-Made-clause-memo
resolve-returns-in-Made-clause-memo g t c =
    let T = c.args.types.now in
    let k = c.args.count in
    let s = c.heads.store in
    let grown = c.resolve_node.new.store in
    let whole = put_first T c.args.store.now k (tree_of T c.args.store.now c.args.id) in
    let before = c.heads.invariant in
    let node = c.in_ok-made.ensures in
    let typed = before.adds.typed T c.requires.store in
    let made = subst (IsTurn T s grown k c.heads.here) c.in-Made.is node.turn in
    let kept = keeps_more T grown c.resolve_node.new.memo c.keep.new.self c.heads.here c.in-Made.made k node.memo (node.adds.before.ids c.heads.here before.here.0) made.0
    (put_there T s grown typed node.adds.before k c.heads.here c.in-Made.made before.here.0 made.1) c.keep.ensures in
    always_ok c.keep_for_all-in-Made.result (c.keep_for_all-in-Made.ensures.memo T grown kept made.0
    (all_become T grown k whole (tree_of T grown c.in-Made.made) (put_first T s k (tree_of T s c.heads.here)) c.heads.passed.items c.deref-in-Made.result.now c.deref-in-Made.ensures.value made.1 before.here.1
    (all_still T s grown typed node.adds.before k whole c.heads.passed.items before.passed)))

pub resolve-returns-in_err-push-in-Passed-clause-adds : goal.resolve-returns-in_err-push-in-Passed-clause-adds
resolve-returns-in_err-push-in-Passed-clause-adds g t c = adds_on c.args.store.now c.heads.store c.resolve_node.new.store c.heads.invariant.adds c.in_ok-made.ensures.adds

pub resolve-heads-preserved : goal.resolve-heads-preserved
resolve-heads-preserved g t c =
    let T = c.args.types.now in
    let k = c.args.count in
    let s = c.heads.store in
    let grown = c.resolve_node.new.store in
    let whole = put_first T c.args.store.now k (tree_of T c.args.store.now c.args.id) in
    let before = c.heads.invariant in
    let node = c.in_ok-made.ensures in
    let typed = before.adds.typed T c.requires.store in
    let next = subst (IsTurn T s grown k c.heads.here) c.in-Passed.is node.turn in
    record {
      adds = adds_on c.args.store.now s grown before.adds node.adds;
      here = becomes_same T s grown k whole c.heads.here c.in-Passed.next next.0 before.here;
      passed = rw c.in_ok-push-in-Passed.ensures.items (All-push (Becomes T grown k whole) c.heads.passed.items c.heads.here (all_still T s grown typed node.adds.before k whole c.heads.passed.items before.passed) (becomes_on T s grown typed node.adds.before k whole c.heads.here before.here));
      memo = node.memo;
      smaller = omega (arith, next.1, before.smaller);
      steps = omega (arith, before.steps, c.tick.ensures, node.steps);
    }

pub resolve_node-resolve-requires : goal.resolve_node-resolve-requires
resolve_node-resolve-requires g t c = λ κs out.
    let is = sym c.in_ok-ty.ensures ∙ c.in-Lam.is in
    let inner = lam_names _ _ c.view.result.now c.in-Lam.ty c.in-Lam.hint c.in-Lam.body is c.view.ensures.earlier in
    let fewer = left_body c.args.types.now c.args.store.now c.args.id c.in-Lam.body c.view.result.now c.in-Lam.ty c.in-Lam.hint (c.view.ensures.tree c.args.types.now) is in
    (omega (arith, inner, fewer, c.decreases), (out, (c.requires.types, (c.requires.store, (c.requires.count, (omega (arith, inner, c.requires.id), c.requires.memo))))))

pub resolve_node-resolve_all-requires : goal.resolve_node-resolve_all-requires
resolve_node-resolve_all-requires g t c = λ κs out.
    let is = sym c.in_ok-ty.ensures ∙ c.in-Spine.is in
    let names = spine_names _ _ c.view.result.now c.in-Spine.head c.in-Spine.args is c.view.ensures.earlier in
    let here : All (λ r. r.0 < c.args.id.0) c.as_slice.result.now = All-same (λ (r : TermId). r.0 < c.args.id.0) _ _ c.as_slice.ensures names.1 in
    let bound : ids_bound c.as_slice.result.now ≤ c.args.id.0 = bound_within c.args.id.0 _ here in
    let fewer = left_args c.args.types.now c.args.store.now c.args.id c.view.result.now c.in-Spine.head c.in-Spine.args c.as_slice.result.now (c.view.ensures.tree c.args.types.now) is c.as_slice.ensures in
    (omega (arith, bound, fewer, c.decreases), (out, (c.requires.types, (c.requires.store, (c.requires.count, (λ k d l. omega (arith, here k d l, c.requires.id), c.requires.memo))))))

pub resolve_node-resolve_all-requires-in-Some : goal.resolve_node-resolve_all-requires-in-Some
resolve_node-resolve_all-requires-in-Some g t c = λ κs out.
    let is = sym c.in_ok-ty.ensures ∙ c.in-Spine.is in
    let names = spine_names _ _ c.view.result.now c.in-Spine.head c.in-Spine.args is c.view.ensures.earlier in
    let here : All (λ r. r.0 < c.args.id.0) c.as_slice-in-Some.result.now = All-same (λ (r : TermId). r.0 < c.args.id.0) _ _ c.as_slice-in-Some.ensures names.1 in
    let bound : ids_bound c.as_slice-in-Some.result.now ≤ c.args.id.0 = bound_within c.args.id.0 _ here in
    let fewer = left_args c.args.types.now c.args.store.now c.args.id c.view.result.now c.in-Spine.head c.in-Spine.args c.as_slice-in-Some.result.now (c.view.ensures.tree c.args.types.now) is c.as_slice-in-Some.ensures in
    (omega (arith, bound, fewer, c.decreases), (out, (c.requires.types, (c.requires.store, (omega (arith, c.in-Some.ensures.place.0, c.requires.count), (λ k d l. omega (arith, here k d l, c.requires.id), c.requires.memo))))))

pub resolve_node-place_of-requires-clause-head : goal.resolve_node-place_of-requires-clause-head
resolve_node-place_of-requires-clause-head g t c =
    (spine_names _ _ c.view.result.now c.in-Spine.head c.in-Spine.args (sym c.in_ok-ty.ensures ∙ c.in-Spine.is) c.view.ensures.earlier).0

pub resolve_node-spine_again-requires-clause-id : goal.resolve_node-spine_again-requires-clause-id
resolve_node-spine_again-requires-clause-id g t c = c.in_ok-given-in-None.ensures.adds.before.ids c.args.id c.requires.id

pub resolve_node-spine_again-requires-clause-head : goal.resolve_node-spine_again-requires-clause-head
resolve_node-spine_again-requires-clause-head g t c =
    let names = spine_names _ _ c.view.result.now c.in-Spine.head c.in-Spine.args (sym c.in_ok-ty.ensures ∙ c.in-Spine.is) c.view.ensures.earlier in
    still_held_head c.args.store.now c.resolve_all.new.store c.in-Spine.head c.in_ok-given-in-None.ensures.adds names.0

pub resolve_node-returns-in_err-lam_again-in-Lam-clause-adds : goal.resolve_node-returns-in_err-lam_again-in-Lam-clause-adds
resolve_node-returns-in_err-lam_again-in-Lam-clause-adds g t c =
    adds_lam c.args.store.now c.resolve.new.store c.lam_again.new.store c.view.result.now c.view.ensures.typed c.in_ok-inner-in-Lam.ensures.adds c.lam_again.ensures.before c.lam_again.ensures.cells
    c.in-Lam.ty c.in-Lam.hint c.in-Lam.body (sym c.in_ok-ty.ensures ∙ c.in-Lam.is) c.lam_again.ensures.typed

pub resolve_node-returns-in-Lam-clause-adds : goal.resolve_node-returns-in-Lam-clause-adds
resolve_node-returns-in-Lam-clause-adds g t c =
    adds_lam c.args.store.now c.resolve.new.store c.lam_again.new.store c.view.result.now c.view.ensures.typed c.in_ok-inner-in-Lam.ensures.adds c.lam_again.ensures.before c.lam_again.ensures.cells
    c.in-Lam.ty c.in-Lam.hint c.in-Lam.body (sym c.in_ok-ty.ensures ∙ c.in-Lam.is) c.lam_again.ensures.typed

pub resolve_node-returns-in-Lam-clause-turn : goal.resolve_node-returns-in-Lam-clause-turn
resolve_node-returns-in-Lam-clause-turn g t c =
    let made = c.in_ok-lam_again-in-Lam in (
      made.ensures.held,
      put_lam c.args.types.now c.args.store.now c.resolve.new.store c.lam_again.new.store c.args.count c.args.id made.field-0 c.view.result.now (c.view.ensures.tree c.args.types.now)
          c.in-Lam.ty c.in-Lam.hint c.in-Lam.body c.in_ok-inner-in-Lam.inner (sym c.in_ok-ty.ensures ∙ c.in-Lam.is) c.in_ok-inner-in-Lam.ensures.tree (made.ensures.reads c.args.types.now),
    )

pub resolve_node-returns-in-Lam-clause-memo : goal.resolve_node-returns-in-Lam-clause-memo
resolve_node-returns-in-Lam-clause-memo g t c =
    let made = c.in_ok-inner-in-Lam.ensures in
    keeps_on c.args.types.now c.resolve.new.store c.lam_again.new.store (made.adds.typed c.args.types.now c.requires.store) c.lam_again.ensures.before c.resolve.new.memo made.memo

pub resolve_node-returns-in_err-spine_again-in-None-clause-adds : goal.resolve_node-returns-in_err-spine_again-in-None-clause-adds
resolve_node-returns-in_err-spine_again-in-None-clause-adds g t c =
    adds_spine c.args.store.now c.resolve_all.new.store c.spine_again.new.store c.view.result.now c.view.ensures.typed c.in_ok-given-in-None.ensures.adds c.spine_again.ensures.before c.spine_again.ensures.cells
    c.in-Spine.head c.in-Spine.head c.in-Spine.args (sym c.in_ok-ty.ensures ∙ c.in-Spine.is) (λ types h. h) c.spine_again.ensures.typed

pub resolve_node-returns-in-None-clause-adds : goal.resolve_node-returns-in-None-clause-adds
resolve_node-returns-in-None-clause-adds g t c =
    adds_spine c.args.store.now c.resolve_all.new.store c.spine_again.new.store c.view.result.now c.view.ensures.typed c.in_ok-given-in-None.ensures.adds c.spine_again.ensures.before c.spine_again.ensures.cells
    c.in-Spine.head c.in-Spine.head c.in-Spine.args (sym c.in_ok-ty.ensures ∙ c.in-Spine.is) (λ types h. h) c.spine_again.ensures.typed

pub resolve_node-returns-in-None-clause-turn : goal.resolve_node-returns-in-None-clause-turn
resolve_node-returns-in-None-clause-turn g t c =
    let made = c.in_ok-spine_again-in-None in (
      made.ensures.held,
      put_spine c.args.types.now c.args.store.now c.resolve_all.new.store c.spine_again.new.store c.args.count c.args.id made.field-0 c.view.result.now (c.view.ensures.tree c.args.types.now)
          c.in-Spine.head c.in-Spine.args c.as_slice.result.now c.in_ok-given-in-None.given.items (sym c.in_ok-ty.ensures ∙ c.in-Spine.is) c.in_ok-given-in-None.ensures.adds.cells c.as_slice.ensures
          c.in-None.ensures.place c.in_ok-given-in-None.ensures.trees (made.ensures.reads c.args.types.now),
    )

pub resolve_node-returns-in-None-clause-memo : goal.resolve_node-returns-in-None-clause-memo
resolve_node-returns-in-None-clause-memo g t c =
    let made = c.in_ok-given-in-None.ensures in
    keeps_on c.args.types.now c.resolve_all.new.store c.spine_again.new.store (made.adds.typed c.args.types.now c.requires.store) c.spine_again.ensures.before c.resolve_all.new.memo made.memo

pub resolve_node-put_binding-requires-clause-store : goal.resolve_node-put_binding-requires-clause-store
resolve_node-put_binding-requires-clause-store g t c = c.in_ok-given-in-Some.ensures.adds.typed c.args.types.now c.requires.store

pub resolve_node-put_binding-requires-clause-place : goal.resolve_node-put_binding-requires-clause-place
resolve_node-put_binding-requires-clause-place g t c = omega (arith, c.in-Some.ensures.place.0, c.requires.count, ap length c.in_ok-given-in-Some.ensures.adds.before.bindings)

pub resolve_node-put_binding-requires-clause-args : goal.resolve_node-put_binding-requires-clause-args
resolve_node-put_binding-requires-clause-args g t c = All-same (Holds c.resolve_all-in-Some.new.store) _ _ c.deref.ensures.value c.in_ok-given-in-Some.ensures.held

pub resolve_node-returns-in_err-next-in-Some-clause-adds : goal.resolve_node-returns-in_err-next-in-Some-clause-adds
resolve_node-returns-in_err-next-in-Some-clause-adds g t c =
    adds_on c.args.store.now c.resolve_all-in-Some.new.store c.put_binding.new.store c.in_ok-given-in-Some.ensures.adds c.in_err-next-in-Some.ensures.adds

pub resolve_node-returns-clause-adds : goal.resolve_node-returns-clause-adds
resolve_node-returns-clause-adds g t c =
    adds_on c.args.store.now c.resolve_all-in-Some.new.store c.put_binding.new.store c.in_ok-given-in-Some.ensures.adds c.in_ok-next-in-Some.ensures.adds

pub resolve_node-returns-clause-turn : goal.resolve_node-returns-clause-turn
resolve_node-returns-clause-turn g t c =
    let T = c.args.types.now in
    let s = c.args.store.now in
    let is = sym c.in_ok-ty.ensures ∙ c.in-Spine.is in
    let given = c.in_ok-given-in-Some.ensures in
    let made = c.in_ok-next-in-Some.ensures in
    let adds = adds_on s c.resolve_all-in-Some.new.store c.put_binding.new.store given.adds made.adds in
    let within : c.in-Some.place < length s.bindings = omega (arith, c.in-Some.ensures.place.0, c.requires.count) in
    let head = c.in-Some.ensures.place.1 nothing in
    let first = put_bound T s c.resolve_all-in-Some.new.store c.put_binding.new.store (c.in-Some.place + 1) c.args.id c.in_ok-next-in-Some.next c.view.result.now (c.view.ensures.tree T)
    c.in-Spine.head c.in-Spine.args c.as_slice-in-Some.result.now c.in_ok-given-in-Some.given.items c.deref.result.now c.in-Some.place nothing c.deref.ensures.value is c.place_of.ensures.order given.adds.before within (add-one c.in-Some.place) head
    c.as_slice-in-Some.ensures given.trees (made.tree nothing) in (
      (
        made.held,
        put_rest T s c.put_binding.new.store (c.in-Some.place + 1) c.args.count c.args.id c.in_ok-next-in-Some.next c.place_of.ensures.order c.requires.store adds.before (omega (arith, c.in-Some.ensures.place.0)) first,
      ),
      left_made T s c.put_binding.new.store adds.before c.place_of.ensures.order c.args.id c.in_ok-next-in-Some.next c.view.result.now c.in-Spine.head c.in-Spine.args c.in-Some.place (c.in-Some.place + 1) nothing (add-one c.in-Some.place) (c.view.ensures.tree T) is within head first,
    )

pub resolve_node-returns-clause-memo : goal.resolve_node-returns-clause-memo
resolve_node-returns-clause-memo g t c =
    let given = c.in_ok-given-in-Some.ensures in
    keeps_on c.args.types.now c.resolve_all-in-Some.new.store c.put_binding.new.store (given.adds.typed c.args.types.now c.requires.store) c.in_ok-next-in-Some.ensures.adds.before c.resolve_all-in-Some.new.memo given.memo

pub resolve_all-resolve-requires : goal.resolve_all-resolve-requires
resolve_all-resolve-requires g t c = λ κs out.
    let d : TermId = record { 0 = 0 } in
    let below : (get_or c.args.ids.now c.loop-id.id-index d).0 < ids_bound c.args.ids.now = below_bound c.args.ids.now c.loop-id.id-index d (omega arith) in
    let adds = c.loop-id.invariant.adds in
    let fewer = left_one c.args.types.now c.args.store.now c.loop-id.store adds.before c.args.ids.now c.loop-id.id-index d (omega arith) c.requires.ids in
    (omega (arith, below, fewer, c.decreases), (out, (c.requires.types, (adds.typed c.args.types.now c.requires.store, (omega (arith, c.requires.count, ap length adds.before.bindings), (adds.before.ids _ (c.requires.ids c.loop-id.id-index d (omega arith)), c.loop-id.invariant.memo))))))

pub resolve_all-returns-in_err-resolve-clause-adds : goal.resolve_all-returns-in_err-resolve-clause-adds
resolve_all-returns-in_err-resolve-clause-adds g t c = adds_on c.args.store.now c.loop-id.store c.resolve.new.store c.loop-id.invariant.adds c.in_err-resolve.ensures.adds

pub resolve_all-returns-in_err-push-clause-adds : goal.resolve_all-returns-in_err-push-clause-adds
resolve_all-returns-in_err-push-clause-adds g t c = adds_on c.args.store.now c.loop-id.store c.resolve.new.store c.loop-id.invariant.adds c.in_ok-resolve.ensures.adds

pub resolve_all-loop-id-preserved : goal.resolve_all-loop-id-preserved
resolve_all-loop-id-preserved g t c =
    let before = c.loop-id.invariant in
    let made = c.in_ok-resolve.ensures in
    record {
      adds = adds_on c.args.store.now c.loop-id.store c.resolve.new.store before.adds made.adds;
      held = rw c.in_ok-push.ensures.items (All-push (Holds c.resolve.new.store) c.loop-id.made.items c.in_ok-resolve.field-0 (still_held c.loop-id.store c.resolve.new.store c.loop-id.made.items made.adds before.held) made.held);
      trees = read_more c.args.types.now (put_first c.args.types.now c.args.store.now c.args.count) c.args.store.now c.loop-id.store c.resolve.new.store c.args.ids.now c.loop-id.made.items c.push.new.self.items c.loop-id.id-index (record { 0 = 0 }) c.in_ok-resolve.field-0
          before.adds made.adds c.requires.ids before.held before.trees
          (made.tree ∙ put_on c.args.types.now c.args.store.now c.loop-id.store c.requires.store before.adds.before c.args.count _) (omega arith) c.in_ok-push.ensures.items;
      memo = made.memo;
      steps = omega (arith, before.steps, made.steps);
    }
