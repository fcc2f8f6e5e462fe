use Rattle.std.proofs.Common.{◌≡◌, ◌↔◌, ◌<◌, ◌≤◌, [], Some, arith, true, get_or, sym, ◌∙◌, subst}
use Rattle.std.specs.List.{All}
use Rattle.std.proofs.lemmas.List.Elements.{All-same, All-contains}
use Rattle.ab_term.specs.Typing.{head_type}
use Rattle.ab_term.proofs.Closed.{closed_typed}
use Rattle.ab_store.specs.ab_types.specs.Entries.{signature}
use Rattle.ab_store.specs.ab_types.specs.Ids.{HoldsType, type_of}
use Rattle.ab_store.specs.declared.node.TermId.{TermId}
use Rattle.ab_store.specs.Trees.{tree_of, head_reading}
use Rattle.ab_store.specs.Naming.{NodeIsTyped}
use Rattle.ab_typing.specs.declared.closed_types.Typed.{Typed}
use Rattle.ab_typing.specs.HeadArguments.{rest_type, wanted_type, context, IsOf}
use Rattle.ab_typing.proofs.Bounds.{ids_bound, bound_within, below_bound, spine_names}
use Rattle.ab_typing.proofs.Judged.{closed_alone, stops, fails, goes_on, ends, function_judged, applied_judged, kind_seen}
use Rattle.ab_typing.proofs.Sets.{all_gained}
use Rattle.ab_formulas.proofs.FitsWalks.{if_ok, never, always, denied}
use Rattle.ab_typing.proofs.typing.+typed.Goals as goal

pub check-returns-then-is_known-clause-judged : goal.check-returns-then-is_known-clause-judged
check-returns-then-is_known-clause-judged t c =
    always (closed_typed (signature c.args.types.now) (context c.args.types.now c.args.scope.now.names.items)
    (All-contains (λ (k : Typed). IsOf c.args.types.now c.args.store.now [] k.id (type_of c.args.types.now k.ty)) c.args.scope.now.known.keys (record { id = c.args.id; ty = c.args.ty }) c.requires.known (c.is_known.ensures c.if-is_known.true)))

pub check-returns-clause-known : goal.check-returns-clause-known
check-returns-clause-known t c =
    all_gained (λ (k : Typed). IsOf c.args.types.now c.args.store.now [] k.id (type_of c.args.types.now k.ty)) c.check_node-2.new.scope.known.keys c.know.new.known.keys (record { id = c.args.id; ty = c.args.ty }) c.in_ok-know.ensures c.in_ok-check_node.ensures.known
    (closed_alone (signature c.args.types.now) (context c.args.types.now c.args.scope.now.names.items) (tree_of c.args.types.now c.args.store.now c.args.id) (type_of c.args.types.now c.args.ty) (omega (arith, c.reach.ensures.tree c.args.types.now, c.if-reach-gt0.false))
    (c.in_ok-check_node.ensures.judged.0 c.if-not-branch.false))

pub check_all-returns-in-None-clause-judged : goal.check_all-returns-in-None-clause-judged
check_all-returns-in-None-clause-judged t c =
    never _ (stops c.args.types.now c.args.store.now (context c.args.types.now c.args.scope.now.names.items) c.args.ids.now c.loop-id.id-index (rest_type c.args.types.now c.loop-id.rest) (type_of c.args.types.now c.args.ty) _ c.loop-id.invariant.same
    (record { 0 = 0 }) (omega arith) c.in-None.ensures.reads)

pub check_all-check_wanted-requires : goal.check_all-check_wanted-requires
check_all-check_wanted-requires t c =
    let below : (get_or c.args.ids.now c.loop-id.id-index (record { 0 = 0 })).0 < ids_bound c.args.ids.now = below_bound c.args.ids.now c.loop-id.id-index (record { 0 = 0 }) (omega arith) in (
      omega (arith, below, c.decreases),
      (c.requires.store, (c.requires.built, (subst (All (HoldsType c.args.types.now)) (sym c.loop-id.invariant.names) c.requires.names, (c.loop-id.invariant.known, (c.requires.ids c.loop-id.id-index (record { 0 = 0 }) (omega arith), c.in-Some.ensures.first))))),
    )

pub check_all-returns-then-not-branch-clause-judged : goal.check_all-returns-then-not-branch-clause-judged
check_all-returns-then-not-branch-clause-judged t c =
    let judged = subst (λ l. (c.in_ok-check_wanted-in-Some.field-0 ≡ true) ↔ IsOf c.args.types.now c.args.store.now (context c.args.types.now l) (get_or c.args.ids.now c.loop-id.id-index (record { 0 = 0 })) (wanted_type c.args.types.now c.in-Some.taking.first)) c.loop-id.invariant.names c.in_ok-check_wanted-in-Some.ensures.judged in
    never _ (fails c.args.types.now c.args.store.now (context c.args.types.now c.args.scope.now.names.items) c.args.ids.now c.loop-id.id-index (rest_type c.args.types.now c.loop-id.rest) (type_of c.args.types.now c.args.ty) _ c.loop-id.invariant.same
    (record { 0 = 0 }) (omega arith) (wanted_type c.args.types.now c.in-Some.taking.first) (rest_type c.args.types.now c.in-Some.taking.then) c.in-Some.ensures.reads
    (denied c.in_ok-check_wanted-in-Some.field-0 c.if-not-branch.true judged))

pub check_all-loop-id-preserved : goal.check_all-loop-id-preserved
check_all-loop-id-preserved t c =
    let judged = subst (λ l. (c.in_ok-check_wanted-in-Some.field-0 ≡ true) ↔ IsOf c.args.types.now c.args.store.now (context c.args.types.now l) (get_or c.args.ids.now c.loop-id.id-index (record { 0 = 0 })) (wanted_type c.args.types.now c.in-Some.taking.first)) c.loop-id.invariant.names c.in_ok-check_wanted-in-Some.ensures.judged in
    record {
      names = c.in_ok-check_wanted-in-Some.ensures.names ∙ c.loop-id.invariant.names;
      known = c.in_ok-check_wanted-in-Some.ensures.known;
      held = c.in-Some.ensures.then;
      same = goes_on c.args.types.now c.args.store.now (context c.args.types.now c.args.scope.now.names.items) c.args.ids.now c.loop-id.id-index (rest_type c.args.types.now c.loop-id.rest) (type_of c.args.types.now c.args.ty) _ c.loop-id.invariant.same
          (record { 0 = 0 }) (omega arith) (wanted_type c.args.types.now c.in-Some.taking.first) (rest_type c.args.types.now c.in-Some.taking.then) c.in-Some.ensures.reads
          (judged.0 c.if-not-branch.false);
    }

pub check_all-returns-clause-judged : goal.check_all-returns-clause-judged
check_all-returns-clause-judged t c =
    ends c.args.types.now c.args.store.now (context c.args.types.now c.args.scope.now.names.items) c.args.ids.now c.loop-id.id-index (rest_type c.args.types.now c.loop-id.rest) (type_of c.args.types.now c.args.ty) _ c.loop-id.invariant.same
    c.ends_at.result (omega arith) c.ends_at.ensures

pub check_function-is_same-requires-clause-a : goal.check_function-is_same-requires-clause-a
check_function-is_same-requires-clause-a t c = subst (NodeIsTyped c.args.types.now) c.in-Lam.is (c.view.ensures.typed c.args.types.now c.requires.store)

pub check_function-returns-in_ok-yes-in-Lam-clause-judged : goal.check_function-returns-in_ok-yes-in-Lam-clause-judged
check_function-returns-in_ok-yes-in-Lam-clause-judged t c =
    function_judged c.args.types.now c.args.store.now c.args.id c.view.result.now (c.view.ensures.tree c.args.types.now) c.args.scope.now.names.items c.push.new.self.items c.in-Lam.ty c.args.from c.args.to c.in-Lam.field-1 c.in-Lam.body c.in_ok-yes-in-Lam.yes c.in-Lam.is
    (c.is_same.ensures.0 c.if-not-is_same.false) c.in_ok-push-in-Lam.ensures.items c.in_ok-yes-in-Lam.ensures.judged

pub check_node-rest_of_head-requires-clause-typed : goal.check_node-rest_of_head-requires-clause-typed
check_node-rest_of_head-requires-clause-typed t c = subst (NodeIsTyped c.args.types.now) c.in-Spine.is (c.view-in-Base.ensures.typed c.args.types.now c.requires.store)

pub check_node-check_all-requires : goal.check_node-check_all-requires
check_node-check_all-requires t c =
    let names = spine_names _ _ c.view-in-Base.result.now c.in-Spine.head c.in-Spine.args c.in-Spine.is c.view-in-Base.ensures.earlier in
    let here : All (λ r. r.0 < c.args.id.0) c.as_slice-in-Some.result.now = All-same (λ (r : TermId). r.0 < c.args.id.0) _ _ c.as_slice-in-Some.ensures names.1 in
    let bound : ids_bound c.as_slice-in-Some.result.now ≤ c.args.id.0 = bound_within c.args.id.0 _ here in (
      omega (arith, bound, c.decreases),
      (c.requires.store, (c.requires.built, (c.requires.names, (c.requires.known, (λ k d l. omega (arith, here k d l, c.requires.id), (c.in-Some.ensures.held, (c.requires.ty, kind_seen c.args.types.now c.args.ty c.view.result c.in-Base.field-0 c.view.ensures.reads c.in-Base.is))))))),
    )

pub check_node-returns-in-Some-clause-judged : goal.check_node-returns-in-Some-clause-judged
check_node-returns-in-Some-clause-judged t c =
    let head = subst (λ l. head_type (signature c.args.types.now) (context c.args.types.now l) (head_reading c.args.types.now c.args.store.now c.in-Spine.head) ≡ Some (rest_type c.args.types.now c.in-Some.rest)) c.as_slice.ensures.value c.in-Some.ensures.reads in
    if_ok c.check_all.result (λ yes below. applied_judged c.args.types.now c.args.store.now c.args.id c.view-in-Base.result.now (c.view-in-Base.ensures.tree c.args.types.now) (context c.args.types.now c.args.scope.now.names.items) c.in-Spine.head c.in-Spine.args c.as_slice-in-Some.result.now (rest_type c.args.types.now c.in-Some.rest) (type_of c.args.types.now c.args.ty) yes c.in-Spine.is c.as_slice-in-Some.ensures
    (kind_seen c.args.types.now c.args.ty c.view.result c.in-Base.field-0 c.view.ensures.reads c.in-Base.is) head below) c.check_all.ensures.judged
