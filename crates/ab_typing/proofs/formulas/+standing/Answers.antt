use Rattle.std.proofs.Common.{◌<◌, ◌≤◌, arith, get_or}
use Rattle.std.specs.List.{All}
use Rattle.std.proofs.lemmas.List.Elements.{All-same, All-more}
use Rattle.ab_store.specs.declared.node.TermId.{TermId}
use Rattle.ab_store.specs.Trees.{tree_of}
use Rattle.ab_formulas.specs.Formulas.{StandsIn, a_formula}
use Rattle.ab_typing.specs.Places.{place_of}
use Rattle.ab_typing.proofs.Bounds.{ids_bound, bound_within, below_bound, spine_names}
use Rattle.ab_typing.proofs.Standing.{stands_spine}
use Rattle.ab_typing.proofs.Sets.{all_gained}
use Rattle.ab_formulas.proofs.FitsWalks.{if_ok, never, always, denied, all_so_far, one_fails}
use Rattle.ab_typing.proofs.formulas.+standing.Goals as goal

pub all_stand-stands_in-requires : goal.all_stand-stands_in-requires
all_stand-stands_in-requires t c =
    let below : (get_or c.args.ids.now c.loop-id.id-index (record { 0 = 0 })).0 < ids_bound c.args.ids.now = below_bound c.args.ids.now c.loop-id.id-index (record { 0 = 0 }) (omega arith) in
    (omega (arith, below, c.decreases), (c.requires.ids c.loop-id.id-index (record { 0 = 0 }) (omega arith), c.loop-id.invariant.seen))

pub all_stand-returns-then-not-branch-clause-stand : goal.all_stand-returns-then-not-branch-clause-stand
all_stand-returns-then-not-branch-clause-stand t c = λ types.
    never _ (one_fails (λ u. StandsIn (place_of c.args.place) (tree_of types c.args.store.now u)) c.args.ids.now c.loop-id.id-index (record { 0 = 0 }) (omega arith)
    (denied c.in_ok-stands_in.field-0 c.if-not-branch.true (c.in_ok-stands_in.ensures.stands types)))

pub all_stand-loop-id-preserved : goal.all_stand-loop-id-preserved
all_stand-loop-id-preserved t c = record {
  seen = c.in_ok-stands_in.ensures.seen;
  so_far = λ types. All-more (λ u. StandsIn (place_of c.args.place) (tree_of types c.args.store.now u)) c.args.ids.now c.loop-id.id-index (record { 0 = 0 }) (omega arith)
      (c.loop-id.invariant.so_far types) ((c.in_ok-stands_in.ensures.stands types).0 c.if-not-branch.false);
}

pub all_stand-returns-clause-stand : goal.all_stand-returns-clause-stand
all_stand-returns-clause-stand t c = λ types.
    always (all_so_far (λ u. StandsIn (place_of c.args.place) (tree_of types c.args.store.now u)) c.args.ids.now c.loop-id.id-index (omega arith) (c.loop-id.invariant.so_far types))

pub node_stands-all_stand-requires : goal.node_stands-all_stand-requires
node_stands-all_stand-requires t c =
    let names = spine_names _ _ c.view.result.now c.in-Spine.head c.in-Spine.args c.in-Spine.is c.view.ensures.earlier in
    let here : All (λ r. r.0 < c.args.id.0) c.as_slice.result.now = All-same (λ (r : TermId). r.0 < c.args.id.0) _ _ c.as_slice.ensures names.1 in
    let bound : ids_bound c.as_slice.result.now ≤ c.args.id.0 = bound_within c.args.id.0 _ here in
    (omega (arith, bound, c.decreases), (λ k d l. omega (arith, here k d l, c.requires.id), c.requires.seen))

pub node_stands-returns-else-not-is_rigid-clause-stands : goal.node_stands-returns-else-not-is_rigid-clause-stands
node_stands-returns-else-not-is_rigid-clause-stands t c =
    if_ok c.all_stand.result (λ yes below types. stands_spine types c.args.store.now c.args.id c.view.result.now c.in-Spine.head c.in-Spine.args c.as_slice.result.now (place_of c.places_of.result) yes (c.view.ensures.tree types) c.in-Spine.is c.as_slice.ensures
    ((c.is_rigid.ensures types c.args.store.now.cells).0 c.if-not-is_rigid.false) (c.places_of.ensures types c.args.store.now.cells) (below types)) c.all_stand.ensures.stand

pub stands-returns-clause-seen : goal.stands-returns-clause-seen
stands-returns-clause-seen t c = λ types.
    all_gained (λ u. StandsIn a_formula (tree_of types c.args.store.now u)) c.node_stands.new.seen.keys c.see.new.seen.keys c.args.id c.in_ok-see.ensures
    (c.in_ok-node_stands.ensures.seen types) ((c.in_ok-node_stands.ensures.stands types).0 c.if-not-branch.false)
