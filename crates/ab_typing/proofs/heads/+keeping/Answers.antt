use Rattle.std.proofs.Common.{◌<◌, ◌≤◌, arith, get_or}
use Rattle.std.specs.List.{All}
use Rattle.std.proofs.lemmas.List.Elements.{All-same}
use Rattle.ab_store.specs.declared.node.TermId.{TermId}
use Rattle.ab_store.specs.Trees.{tree_of}
use Rattle.ab_formulas.specs.Heads.{KeepsNames}
use Rattle.ab_typing.specs.Parts.{place_of}
use Rattle.ab_typing.proofs.ClauseBounds.{ids_bound, bound_within, below_bound, spine_names}
use Rattle.ab_typing.proofs.Keeping.{keeps_spine}
use Rattle.ab_formulas.proofs.ClausesWalks.{if_ok, always, all_so_far}
use Rattle.ab_typing.proofs.heads.+keeping.Goals as goal

pub all_keep-keeps-requires : goal.all_keep-keeps-requires
all_keep-keeps-requires t c =
    let below : (get_or c.args.ids.now c.loop-id.id-index (record { 0 = 0 })).0 < ids_bound c.args.ids.now = below_bound c.args.ids.now c.loop-id.id-index (record { 0 = 0 }) (omega arith) in
    (omega (arith, below, c.decreases), (c.requires.ids c.loop-id.id-index (record { 0 = 0 }) (omega arith), c.loop-id.invariant.spots))

pub all_keep-returns-clause-keep : goal.all_keep-returns-clause-keep
all_keep-returns-clause-keep t c = λ types.
    always (all_so_far (λ u. KeepsNames (place_of c.args.place) c.args.inner (tree_of types c.args.store.now u)) c.args.ids.now c.loop-id.id-index (omega arith) (c.loop-id.invariant.so_far types))

pub node_keeps-all_keep-requires : goal.node_keeps-all_keep-requires
node_keeps-all_keep-requires t c =
    let names = spine_names _ _ c.view.result.now c.in-Spine.head c.in-Spine.args c.in-Spine.is c.view.ensures.earlier in
    let here : All (λ r. r.0 < c.args.id.0) c.as_slice.result.now = All-same (λ (r : TermId). r.0 < c.args.id.0) _ _ c.as_slice.ensures names.1 in
    let bound : ids_bound c.as_slice.result.now ≤ c.args.id.0 = bound_within c.args.id.0 _ here in
    (omega (arith, bound, c.decreases), (λ k d l. omega (arith, here k d l, c.requires.id), c.requires.spots))

pub node_keeps-returns-else-not-is_no_prefix_name-clause-keeps : goal.node_keeps-returns-else-not-is_no_prefix_name-clause-keeps
node_keeps-returns-else-not-is_no_prefix_name-clause-keeps t c =
    if_ok c.all_keep.result (λ yes below types.
    keeps_spine types c.args.store.now c.args.id c.view.result.now (c.view.ensures.tree types) (place_of c.args.place) c.args.inner c.in-Spine.head c.in-Spine.args c.as_slice.result.now (place_of c.place_under.result) yes c.in-Spine.is c.as_slice.ensures
    ((c.is_no_prefix_name.ensures types c.args.store.now.cells).0 c.if-not-is_no_prefix_name.false) (c.place_under.ensures types c.args.store.now.cells) (below types)) c.all_keep.ensures.keep
