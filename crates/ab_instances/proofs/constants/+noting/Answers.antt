use Rattle.std.proofs.Common.{◌-◌, ◌<◌, ◌≤◌, length, get_or, arith, sym, ◌∙◌, subst}
use Rattle.std.specs.List.{All}
use Rattle.std.proofs.lemmas.List.Elements.{All-same}
use Rattle.std.proofs.lemmas.Result.{on_ok_weaker}
use Rattle.ab_term.specs.Names.{support, support_of_head}
use Rattle.ab_norm.specs.ab_store.specs.declared.node.TermId.{TermId}
use Rattle.ab_norm.specs.ab_store.specs.Trees.{tree_of, head_reading}
use Rattle.ab_norm.specs.ab_store.specs.Naming.{NodeIsTyped}
use Rattle.ab_norm.proofs.Bounds.{ids_bound, bound_within, below_bound}
use Rattle.ab_norm.proofs.Frame.{spine_names}
use Rattle.ab_instances.specs.ListReadings.{names_read}
use Rattle.ab_instances.proofs.Noted.{noted_known, noted_more, noted_spine, are_noted_on, are_noted_more}
use Rattle.ab_instances.proofs.constants.+noting.Goals as goal

pub note-returns-then-has-clause-notes : goal.note-returns-then-has-clause-notes
note-returns-then-has-clause-notes t c =
    let types = c.args.types.now in
    sym (noted_known (support (tree_of types c.args.store.now c.args.id)) (names_read types c.args.found.now.items) (c.requires.seen c.args.id (sym c.has.ensures ∙ c.if-has.true)))

pub note-returns-clause-seen : goal.note-returns-clause-seen
note-returns-clause-seen t c =
    let types = c.args.types.now in
    are_noted_more types c.args.store.now (names_read types c.args.found.now.items) (names_read types c.note_node.new.found.items) c.note_node.new.seen c.keep.new.self c.args.id c.in_ok-note_node.ensures.notes c.in_ok-note_node.ensures.seen c.keep.ensures

pub note_all-note-requires : goal.note_all-note-requires
note_all-note-requires t c =
    let n = length c.args.ids.now - 1 - c.loop-done.done in
    let within : n < length c.args.ids.now = omega (arith, c.loop-done-test.true) in
    let below : (get_or c.args.ids.now n (record { 0 = 0 })).0 < ids_bound c.args.ids.now = below_bound c.args.ids.now n (record { 0 = 0 }) within in
    (omega (arith, below, c.decreases), (c.requires.table, (c.requires.store, (c.requires.ids n (record { 0 = 0 }) within, (c.loop-done.invariant.held, c.loop-done.invariant.seen)))))

pub note_all-loop-done-preserved : goal.note_all-loop-done-preserved
note_all-loop-done-preserved t c =
    let types = c.args.types.now in
    let l = c.loop-done in
    record {
      notes = noted_more types c.args.store.now c.args.ids.now l.done (record { 0 = 0 }) (names_read types c.args.found.now.items) (names_read types l.found.items) (names_read types c.note.new.found.items) (omega (arith, c.loop-done-test.true))
          l.invariant.notes c.in_ok-note.ensures.notes;
      held = c.in_ok-note.ensures.held;
      seen = c.in_ok-note.ensures.seen;
    }

pub note_node-note_all-requires : goal.note_node-note_all-requires
note_node-note_all-requires t c =
    let names = spine_names _ _ c.view.result.now c.in-Spine.head c.in-Spine.args c.in-Spine.is c.view.ensures.earlier in
    let here : All (λ r. r.0 < c.args.id.0) c.as_slice.result.now = All-same (λ (r : TermId). r.0 < c.args.id.0) _ _ c.as_slice.ensures names.1 in
    let bound : ids_bound c.as_slice.result.now ≤ c.args.id.0 = bound_within c.args.id.0 _ here in
    (omega (arith, bound, c.decreases), (c.requires.table, (c.requires.store, ((λ k d l. omega (arith, here k d l, c.requires.id)), (c.requires.found, c.requires.seen)))))

pub note_node-note_head-requires-clause-head : goal.note_node-note_head-requires-clause-head
note_node-note_head-requires-clause-head t c = subst (NodeIsTyped c.args.types.now) c.in-Spine.is (c.view.ensures.typed c.args.types.now c.requires.store)

pub note_node-returns-in_ok-note_all-in-Spine-clause-notes : goal.note_node-returns-in_ok-note_all-in-Spine-clause-notes
note_node-returns-in_ok-note_all-in-Spine-clause-notes t c =
    let types = c.args.types.now in
    let store = c.args.store.now in
    on_ok_weaker c.note_head.result (λ below.
    noted_spine types store c.args.id c.view.result.now c.in-Spine.head c.in-Spine.args c.as_slice.result.now (names_read types c.args.found.now.items) (names_read types c.note_all.new.found.items) (names_read types c.note_head.new.found.items)
    (c.view.ensures.tree types) c.in-Spine.is c.as_slice.ensures c.in_ok-note_all-in-Spine.ensures.notes (below store.cells)) c.note_head.ensures.notes

pub note_node-returns-in_ok-note_all-in-Spine-clause-seen : goal.note_node-returns-in_ok-note_all-in-Spine-clause-seen
note_node-returns-in_ok-note_all-in-Spine-clause-seen t c =
    let types = c.args.types.now in
    let store = c.args.store.now in
    on_ok_weaker c.note_head.result (λ below.
    are_noted_on types store (support_of_head (head_reading types store c.in-Spine.head)) (names_read types c.note_all.new.found.items) (names_read types c.note_head.new.found.items) c.note_all.new.seen (below store.cells) c.in_ok-note_all-in-Spine.ensures.seen) c.note_head.ensures.notes
