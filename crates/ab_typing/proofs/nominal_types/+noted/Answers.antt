use Rattle.std.proofs.Common.{◌<◌, ◌≤◌, arith, map, true, get_or, refl, subst}
use Rattle.std.specs.List.{All}
use Rattle.std.proofs.lemmas.List.{take_all}
use Rattle.std.proofs.lemmas.List.Elements.{All-same}
use Rattle.ab_term.specs.Names.{support, support_of_head}
use Rattle.ab_store.specs.declared.node.TermId.{TermId}
use Rattle.ab_store.specs.Trees.{tree_of, head_reading}
use Rattle.ab_store.specs.Naming.{NodeIsTyped}
use Rattle.ab_typing.specs.NominalTypes.{Notes}
use Rattle.ab_formulas.specs.GoalTerms.{names_of}
use Rattle.ab_typing.proofs.Bounds.{ids_bound, bound_within, below_bound, spine_names}
use Rattle.ab_typing.proofs.Noted.{notes_seen, notes_see, notes_more, notes_end, notes_lam, notes_spine, notes_head}
use Rattle.ab_formulas.proofs.FitsWalks.{if_ok}
use Rattle.ab_typing.proofs.nominal_types.+noted.Goals as goal

pub note-returns-then-is_seen : goal.note-returns-then-is_seen
note-returns-then-is_seen t c = notes_seen c.args.types.now c.args.store.now c.args.known.now c.requires.known c.args.id (c.is_seen.ensures c.if-is_seen.true)

pub note-returns : goal.note-returns
note-returns t c =
    notes_see c.args.types.now c.args.store.now c.args.known.now c.note_node.new.known (record { types = c.note_node.new.known.types; seen = c.see.new.seen }) c.args.id
    (subst (Notes c.args.types.now c.args.store.now c.args.known.now c.note_node.new.known (support (tree_of c.args.types.now c.args.store.now c.args.id))) c.if-not-branch.false c.in_ok-note_node.ensures) refl c.in_ok-see.ensures

pub note_all-note-requires : goal.note_all-note-requires
note_all-note-requires t c =
    let below : (get_or c.args.ids.now c.loop-id.id-index (record { 0 = 0 })).0 < ids_bound c.args.ids.now = below_bound c.args.ids.now c.loop-id.id-index (record { 0 = 0 }) (omega arith) in
    (omega (arith, below, c.decreases), (c.requires.store, (c.loop-id.invariant.0, c.requires.ids c.loop-id.id-index (record { 0 = 0 }) (omega arith))))

pub note_all-returns-then-not-branch : goal.note_all-returns-then-not-branch
note_all-returns-then-not-branch t c =
    notes_end c.args.types.now c.args.store.now c.args.ids.now c.loop-id.id-index (record { 0 = 0 }) c.args.known.now c.loop-id.known c.note.new.known (omega arith) c.loop-id.invariant
    (subst (Notes c.args.types.now c.args.store.now c.loop-id.known c.note.new.known (support (tree_of c.args.types.now c.args.store.now (get_or c.args.ids.now c.loop-id.id-index (record { 0 = 0 }))))) c.if-not-branch.true c.in_ok-note.ensures)

pub note_all-loop-id-preserved : goal.note_all-loop-id-preserved
note_all-loop-id-preserved t c =
    notes_more c.args.types.now c.args.store.now c.args.ids.now c.loop-id.id-index (record { 0 = 0 }) c.args.known.now c.loop-id.known c.note.new.known (omega arith) c.loop-id.invariant
    (subst (Notes c.args.types.now c.args.store.now c.loop-id.known c.note.new.known (support (tree_of c.args.types.now c.args.store.now (get_or c.args.ids.now c.loop-id.id-index (record { 0 = 0 }))))) c.if-not-branch.false c.in_ok-note.ensures)

pub note_all-returns : goal.note_all-returns
note_all-returns t c =
    subst (λ l. Notes c.args.types.now c.args.store.now c.args.known.now c.loop-id.known (names_of (map (tree_of c.args.types.now c.args.store.now) l)) true) (take_all c.loop-id.id-index c.args.ids.now (omega arith)) c.loop-id.invariant

pub note_node-note_head-requires-clause-head : goal.note_node-note_head-requires-clause-head
note_node-note_head-requires-clause-head t c = subst (NodeIsTyped c.args.types.now) c.in-Spine.is (c.view.ensures.typed c.args.types.now c.requires.store)

pub note_node-returns-then-not-branch : goal.note_node-returns-then-not-branch
note_node-returns-then-not-branch t c =
    notes_head c.args.types.now c.args.store.now c.args.id c.view.result.now (c.view.ensures.tree c.args.types.now) c.in-Spine.head c.in-Spine.args c.args.known.now c.note_head.new.known c.note_head.new.known c.in-Spine.is
    (subst (Notes c.args.types.now c.args.store.now c.args.known.now c.note_head.new.known (support_of_head (head_reading c.args.types.now c.args.store.now c.in-Spine.head))) c.if-not-branch.true c.in_ok-note_head-in-Spine.ensures)

pub note_node-note_all-requires : goal.note_node-note_all-requires
note_node-note_all-requires t c =
    let names = spine_names _ _ c.view.result.now c.in-Spine.head c.in-Spine.args c.in-Spine.is c.view.ensures.earlier in
    let here : All (λ r. r.0 < c.args.id.0) c.as_slice.result.now = All-same (λ (r : TermId). r.0 < c.args.id.0) _ _ c.as_slice.ensures names.1 in
    let bound : ids_bound c.as_slice.result.now ≤ c.args.id.0 = bound_within c.args.id.0 _ here in
    let noted : Notes c.args.types.now c.args.store.now c.args.known.now c.note_head.new.known (support_of_head (head_reading c.args.types.now c.args.store.now c.in-Spine.head)) true
    = subst (Notes c.args.types.now c.args.store.now c.args.known.now c.note_head.new.known (support_of_head (head_reading c.args.types.now c.args.store.now c.in-Spine.head))) c.if-not-branch.false c.in_ok-note_head-in-Spine.ensures in
    (omega (arith, bound, c.decreases), (c.requires.store, (noted.0, λ k d l. omega (arith, here k d l, c.requires.id))))

pub note_node-returns-in-Lam : goal.note_node-returns-in-Lam
note_node-returns-in-Lam t c =
    if_ok c.note.result (λ yes below. notes_lam c.args.types.now c.args.store.now c.args.id c.view.result.now (c.view.ensures.tree c.args.types.now) c.in-Lam.field-0 c.in-Lam.field-1 c.in-Lam.body c.args.known.now c.note.new.known yes c.in-Lam.is below) c.note.ensures

pub note_node-returns-else-not-branch : goal.note_node-returns-else-not-branch
note_node-returns-else-not-branch t c =
    if_ok c.note_all.result (λ yes below. notes_spine c.args.types.now c.args.store.now c.args.id c.view.result.now (c.view.ensures.tree c.args.types.now) c.in-Spine.head c.in-Spine.args c.as_slice.result.now c.args.known.now c.note_head.new.known c.note_all.new.known yes c.in-Spine.is c.as_slice.ensures
    (subst (Notes c.args.types.now c.args.store.now c.args.known.now c.note_head.new.known (support_of_head (head_reading c.args.types.now c.args.store.now c.in-Spine.head))) c.if-not-branch.false c.in_ok-note_head-in-Spine.ensures) below) c.note_all.ensures
