use Rattle.std.proofs.Common.{◌<◌, ◌≤◌, arith, sym, ◌∙◌, subst, map, get_or}
use Rattle.std.specs.List.{All}
use Rattle.std.proofs.lemmas.List.{take_all}
use Rattle.std.proofs.lemmas.List.Elements.{All-same}
use Rattle.ab_term.specs.Terms.{terms_of}
use Rattle.ab_term.specs.Names.{support, support_of_all}
use Rattle.ab_store.specs.Trees.{tree_of}
use Rattle.ab_store.specs.Naming.{NodeIsTyped}
use Rattle.ab_store.specs.declared.node.TermId.{TermId}
use Rattle.ab_norm.specs.GatheredNames.{Gathers}
use Rattle.ab_norm.proofs.Bounds.{ids_bound, bound_within, below_bound}
use Rattle.ab_norm.proofs.Frame.{spine_names}
use Rattle.ab_norm.proofs.Gathered.{gathers_lam, gathers_spine, gathers_more, gathers_known, all_found_on, all_found_more, on_ok}
use Rattle.ab_norm.proofs.supports.+gathered.Goals as goal

pub gather_node-gather_all-requires : goal.gather_node-gather_all-requires
gather_node-gather_all-requires t c =
    let names = spine_names _ _ c.view.result.now c.in-Spine.head c.in-Spine.args c.in-Spine.is c.view.ensures.earlier in
    let here : All (λ r. r.0 < c.args.id.0) c.as_slice.result.now = All-same (λ (r : TermId). r.0 < c.args.id.0) _ _ c.as_slice.ensures names.1 in
    let bound : ids_bound c.as_slice.result.now ≤ c.args.id.0 = bound_within c.args.id.0 _ here in
    (omega (arith, bound, c.decreases), (λ k d l. omega (arith, here k d l, c.requires.id), all_found_on c.args.store.now c.args.found.now.keys c.note.new.found.keys c.args.seen.now _ (λ types. c.in_ok-note-in-Spine.ensures.gathers types c.args.store.now.cells) c.requires.seen))

pub gather_node-returns-in-Lam-clause-gathers : goal.gather_node-returns-in-Lam-clause-gathers
gather_node-returns-in-Lam-clause-gathers t c =
    on_ok c.gather.result (λ below types. gathers_lam types c.args.store.now c.args.id c.view.result.now c.in-Lam.field-0 c.in-Lam.field-1 c.in-Lam.body c.args.found.now.keys c.gather.new.found.keys
    (c.view.ensures.tree types) c.in-Lam.is (below types)) c.gather.ensures.gathers

pub gather_node-returns-in_ok-note-in-Spine-clause-gathers : goal.gather_node-returns-in_ok-note-in-Spine-clause-gathers
gather_node-returns-in_ok-note-in-Spine-clause-gathers t c =
    on_ok c.gather_all.result (λ below types. gathers_spine types c.args.store.now c.args.id c.view.result.now c.in-Spine.head c.in-Spine.args c.as_slice.result.now c.args.found.now.keys c.note.new.found.keys c.gather_all.new.found.keys
    (c.view.ensures.tree types) c.in-Spine.is c.as_slice.ensures (c.in_ok-note-in-Spine.ensures.gathers types c.args.store.now.cells) (below types)) c.gather_all.ensures.gathers

pub gather_node-returns-in_ok-note-in-Spine-clause-held : goal.gather_node-returns-in_ok-note-in-Spine-clause-held
gather_node-returns-in_ok-note-in-Spine-clause-held t c =
    on_ok c.gather_all.result (λ below types typed held. below types typed
    (c.in_ok-note-in-Spine.ensures.held types (subst (NodeIsTyped types) c.in-Spine.is (c.view.ensures.typed types typed)) held)) c.gather_all.ensures.held

pub gather_all-gather-requires : goal.gather_all-gather-requires
gather_all-gather-requires t c =
    let below : (get_or c.args.ids.now c.loop-id.id-index (record { 0 = 0 })).0 < ids_bound c.args.ids.now = below_bound c.args.ids.now c.loop-id.id-index (record { 0 = 0 }) (omega arith) in
    (omega (arith, below, c.decreases), (c.requires.ids c.loop-id.id-index (record { 0 = 0 }) (omega arith), c.loop-id.invariant.seen))

pub gather_all-loop-id-preserved : goal.gather_all-loop-id-preserved
gather_all-loop-id-preserved t c = record {
  gathers = λ types. gathers_more types c.args.store.now c.args.ids.now c.loop-id.id-index (record { 0 = 0 }) c.args.found.now.keys c.loop-id.found.keys c.gather.new.found.keys (omega arith)
      (c.loop-id.invariant.gathers types) (c.in_ok-gather.ensures.gathers types);
  held = λ types typed held. c.in_ok-gather.ensures.held types typed (c.loop-id.invariant.held types typed held);
  seen = c.in_ok-gather.ensures.seen;
}

pub gather_all-returns-clause-gathers : goal.gather_all-returns-clause-gathers
gather_all-returns-clause-gathers t c = λ types.
    subst (λ l. Gathers types c.args.found.now.keys c.loop-id.found.keys (support_of_all (terms_of (map (tree_of types c.args.store.now) l)))) (take_all c.loop-id.id-index c.args.ids.now (omega arith)) (c.loop-id.invariant.gathers types)

pub gather_all-returns-clause-held : goal.gather_all-returns-clause-held
gather_all-returns-clause-held t c = c.loop-id.invariant.held

pub gather-returns-then-has-clause-gathers : goal.gather-returns-then-has-clause-gathers
gather-returns-then-has-clause-gathers t c = λ types. gathers_known types c.args.found.now.keys (support (tree_of types c.args.store.now c.args.id)) (c.requires.seen types c.args.id (sym c.has.ensures ∙ c.if-has.true))

pub gather-returns-clause-seen : goal.gather-returns-clause-seen
gather-returns-clause-seen t c =
    all_found_more c.args.store.now c.args.found.now.keys c.gather_node.new.found.keys c.gather_node.new.seen c.keep.new.self c.args.id c.in_ok-gather_node.ensures.gathers c.in_ok-gather_node.ensures.seen c.keep.ensures
