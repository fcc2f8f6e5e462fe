use Rattle.std.proofs.Common.{◌<◌, ◌≤◌, arith, map, get_or}
use Rattle.std.specs.List.{All}
use Rattle.std.proofs.lemmas.List.Elements.{All-same, All-more, All-contains}
use Rattle.ab_store.specs.declared.node.TermId.{TermId}
use Rattle.ab_store.specs.Trees.{tree_of}
use Rattle.ab_typing.specs.Cells.{variable_of}
use Rattle.ab_formulas.specs.GoalTerms.{HoldsOnly}
use Rattle.ab_typing.proofs.Bounds.{ids_bound, bound_within, below_bound, spine_names}
use Rattle.ab_typing.proofs.Listed.{holds_lam, holds_spine, unlisted_head}
use Rattle.ab_typing.proofs.Sets.{all_gained}
use Rattle.ab_formulas.proofs.FitsWalks.{if_ok, never, always, denied, all_so_far, one_fails}
use Rattle.ab_typing.proofs.variables.+held.Goals as goal

pub all_hold-holds-requires : goal.all_hold-holds-requires
all_hold-holds-requires t c =
    let below : (get_or c.args.ids.now c.loop-id.id-index (record { 0 = 0 })).0 < ids_bound c.args.ids.now = below_bound c.args.ids.now c.loop-id.id-index (record { 0 = 0 }) (omega arith) in
    (omega (arith, below, c.decreases), (c.requires.ids c.loop-id.id-index (record { 0 = 0 }) (omega arith), c.loop-id.invariant.seen))

pub all_hold-returns-then-not-branch-clause-hold : goal.all_hold-returns-then-not-branch-clause-hold
all_hold-returns-then-not-branch-clause-hold t c = λ types.
    never _ (one_fails (λ u. HoldsOnly (map (variable_of types c.args.store.now) c.args.variables.now) (tree_of types c.args.store.now u)) c.args.ids.now c.loop-id.id-index (record { 0 = 0 }) (omega arith)
    (denied c.in_ok-holds.field-0 c.if-not-branch.true (c.in_ok-holds.ensures.holds types)))

pub all_hold-loop-id-preserved : goal.all_hold-loop-id-preserved
all_hold-loop-id-preserved t c = record {
  seen = c.in_ok-holds.ensures.seen;
  so_far = λ types. All-more (λ u. HoldsOnly (map (variable_of types c.args.store.now) c.args.variables.now) (tree_of types c.args.store.now u)) c.args.ids.now c.loop-id.id-index (record { 0 = 0 }) (omega arith)
      (c.loop-id.invariant.so_far types) ((c.in_ok-holds.ensures.holds types).0 c.if-not-branch.false);
}

pub all_hold-returns-clause-hold : goal.all_hold-returns-clause-hold
all_hold-returns-clause-hold t c = λ types.
    always (all_so_far (λ u. HoldsOnly (map (variable_of types c.args.store.now) c.args.variables.now) (tree_of types c.args.store.now u)) c.args.ids.now c.loop-id.id-index (omega arith) (c.loop-id.invariant.so_far types))

pub holds-returns-then-is_seen-clause-holds : goal.holds-returns-then-is_seen-clause-holds
holds-returns-then-is_seen-clause-holds t c = λ types.
    always (All-contains (λ u. HoldsOnly (map (variable_of types c.args.store.now) c.args.variables.now) (tree_of types c.args.store.now u)) c.args.seen.now.keys c.args.id (c.requires.seen types) (c.is_seen.ensures c.if-is_seen.true))

pub holds-returns-then-not-branch-clause-holds : goal.holds-returns-then-not-branch-clause-holds
holds-returns-then-not-branch-clause-holds t c = λ types. never _ (denied c.in_ok-node_holds.field-0 c.if-not-branch.true (c.in_ok-node_holds.ensures.holds types))

pub holds-returns-clause-holds : goal.holds-returns-clause-holds
holds-returns-clause-holds t c = λ types. always ((c.in_ok-node_holds.ensures.holds types).0 c.if-not-branch.false)

pub holds-returns-clause-seen : goal.holds-returns-clause-seen
holds-returns-clause-seen t c = λ types.
    all_gained (λ u. HoldsOnly (map (variable_of types c.args.store.now) c.args.variables.now) (tree_of types c.args.store.now u)) c.node_holds.new.seen.keys c.see.new.seen.keys c.args.id c.in_ok-see.ensures
    (c.in_ok-node_holds.ensures.seen types) ((c.in_ok-node_holds.ensures.holds types).0 c.if-not-branch.false)

pub node_holds-returns-then-not-is_listed-clause-holds : goal.node_holds-returns-then-not-is_listed-clause-holds
node_holds-returns-then-not-is_listed-clause-holds t c = λ types.
    never _ (λ all. denied c.is_listed.result c.if-not-is_listed.true (c.is_listed.ensures types c.args.store.now)
    (unlisted_head (map (variable_of types c.args.store.now) c.args.variables.now) types c.args.store.now c.args.id c.view.result.now (c.view.ensures.tree types) c.in-Spine.head c.in-Spine.args c.in-Spine.is all))

pub node_holds-all_hold-requires : goal.node_holds-all_hold-requires
node_holds-all_hold-requires t c =
    let names = spine_names _ _ c.view.result.now c.in-Spine.head c.in-Spine.args c.in-Spine.is c.view.ensures.earlier in
    let here : All (λ r. r.0 < c.args.id.0) c.as_slice.result.now = All-same (λ (r : TermId). r.0 < c.args.id.0) _ _ c.as_slice.ensures names.1 in
    let bound : ids_bound c.as_slice.result.now ≤ c.args.id.0 = bound_within c.args.id.0 _ here in
    (omega (arith, bound, c.decreases), (λ k d l. omega (arith, here k d l, c.requires.id), c.requires.seen))

pub node_holds-returns-in-Lam-clause-holds : goal.node_holds-returns-in-Lam-clause-holds
node_holds-returns-in-Lam-clause-holds t c =
    if_ok c.holds.result (λ yes below types. holds_lam (map (variable_of types c.args.store.now) c.args.variables.now) types c.args.store.now c.args.id c.view.result.now (c.view.ensures.tree types) c.in-Lam.field-0 c.in-Lam.field-1 c.in-Lam.body yes c.in-Lam.is (below types)) c.holds.ensures.holds

pub node_holds-returns-else-not-is_listed-clause-holds : goal.node_holds-returns-else-not-is_listed-clause-holds
node_holds-returns-else-not-is_listed-clause-holds t c =
    if_ok c.all_hold.result (λ yes below types. holds_spine (map (variable_of types c.args.store.now) c.args.variables.now) types c.args.store.now c.args.id c.view.result.now (c.view.ensures.tree types) c.in-Spine.head c.in-Spine.args c.as_slice.result.now yes c.in-Spine.is c.as_slice.ensures
    ((c.is_listed.ensures types c.args.store.now).0 c.if-not-is_listed.false) (below types)) c.all_hold.ensures.hold
