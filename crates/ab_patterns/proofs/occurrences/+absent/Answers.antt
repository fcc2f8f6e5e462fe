use Rattle.std.proofs.Common.{◌<◌, ◌≤◌, arith, refl, sym, ◌∙◌, subst, get_or}
use Rattle.std.specs.List.{All}
use Rattle.std.proofs.lemmas.Bool.{false≢true}
use Rattle.std.proofs.lemmas.List.{take_all}
use Rattle.std.proofs.lemmas.List.Elements.{All-same}
use Rattle.ab_norm.specs.ab_store.specs.declared.node.TermId.{TermId}
use Rattle.ab_norm.specs.ab_store.specs.Trees.{tree_of}
use Rattle.ab_norm.specs.ab_store.specs.Reading.{cell_variable}
use Rattle.ab_norm.proofs.Bounds.{ids_bound, bound_within, below_bound}
use Rattle.ab_norm.proofs.Frame.{if_ok, spine_names}
use Rattle.ab_norm.proofs.Resolved.{one_more_clear}
use Rattle.ab_patterns.specs.ReadingWalks.{IsAbsent}
use Rattle.ab_patterns.proofs.Walked.{kept_more, absent_lam, absent_spine, stands_here, none_stand}
use Rattle.ab_patterns.proofs.occurrences.+absent.Goals as goal

pub is_absent_node-are_absent-requires : goal.is_absent_node-are_absent-requires
is_absent_node-are_absent-requires t c =
    let names = spine_names _ _ c.view.result.now c.in-Spine.head c.in-Spine.args c.in-Spine.is c.view.ensures.earlier in
    let here : All (λ r. r.0 < c.args.id.0) c.as_slice.result.now = All-same (λ (r : TermId). r.0 < c.args.id.0) _ _ c.as_slice.ensures names.1 in
    let bound : ids_bound c.as_slice.result.now ≤ c.args.id.0 = bound_within c.args.id.0 _ here in
    (omega (arith, bound, c.decreases), (λ k d l. omega (arith, here k d l, c.requires.id), c.requires.seen))

pub is_absent_node-returns-in-Lam-clause-absent : goal.is_absent_node-returns-in-Lam-clause-absent
is_absent_node-returns-in-Lam-clause-absent t c =
    if_ok c.is_absent.result (λ r known types. absent_lam types c.args.store.now c.args.cell c.args.id c.view.result.now c.in-Lam.field-0 c.in-Lam.field-1 c.in-Lam.body (c.view.ensures.tree types) c.in-Lam.is r (known types)) c.is_absent.ensures.absent

pub is_absent_node-returns-then-is_same_head-clause-absent : goal.is_absent_node-returns-then-is_same_head-clause-absent
is_absent_node-returns-then-is_same_head-clause-absent t c = λ types.
    (λ e. absurd (false≢true e), λ gone. absurd (stands_here types c.args.store.now c.args.cell c.args.id c.view.result.now c.in-Spine.head c.in-Spine.args (c.view.ensures.tree types) c.in-Spine.is (c.is_same_head.ensures.0 c.if-is_same_head.true) gone))

pub is_absent_node-returns-else-is_same_head-clause-absent : goal.is_absent_node-returns-else-is_same_head-clause-absent
is_absent_node-returns-else-is_same_head-clause-absent t c =
    if_ok c.are_absent.result (λ r known types.
    let whole = absent_spine types c.args.store.now c.args.cell c.args.id c.view.result.now c.in-Spine.head c.in-Spine.args (c.view.ensures.tree types) c.in-Spine.is (λ e. false≢true (c.if-is_same_head.ensures.1 e)) in (
      λ yes. whole.1 (subst (All (IsAbsent types c.args.store.now c.args.cell)) c.as_slice.ensures ((known types).0 yes)),
      λ gone. (known types).1 (subst (All (IsAbsent types c.args.store.now c.args.cell)) (sym c.as_slice.ensures) (whole.0 gone)),
    )) c.are_absent.ensures.absent

pub is_absent-returns-then-not-has_cells-clause-absent : goal.is_absent-returns-then-not-has_cells-clause-absent
is_absent-returns-then-not-has_cells-clause-absent t c = λ types. (λ e. none_stand (cell_variable types c.args.store.now c.args.cell) (tree_of types c.args.store.now c.args.id) (c.has_cells.ensures.tree c.if-not-has_cells.true types), λ gone. refl)

pub is_absent-returns-then-has-clause-absent : goal.is_absent-returns-then-has-clause-absent
is_absent-returns-then-has-clause-absent t c = λ types. (λ e. c.requires.seen types c.args.id 0 (sym c.has.ensures ∙ c.if-has.true), λ gone. refl)

pub is_absent-returns-in_ok-keep-clause-seen : goal.is_absent-returns-in_ok-keep-clause-seen
is_absent-returns-in_ok-keep-clause-seen t c = λ types.
    kept_more (λ r k. IsAbsent types c.args.store.now c.args.cell r) c.is_absent_node.new.seen c.keep.new.self c.args.id 0 (c.in_ok-absent.ensures.seen types) ((c.in_ok-absent.ensures.absent types).0 c.if-absent.true) c.keep.ensures

pub are_absent-is_absent-requires : goal.are_absent-is_absent-requires
are_absent-is_absent-requires t c =
    let below : (get_or c.args.ids.now c.loop-id.id-index (record { 0 = 0 })).0 < ids_bound c.args.ids.now = below_bound c.args.ids.now c.loop-id.id-index (record { 0 = 0 }) (omega arith) in
    (omega (arith, below, c.decreases), (c.requires.ids c.loop-id.id-index (record { 0 = 0 }) (omega arith), c.loop-id.invariant.seen))

pub are_absent-returns-then-not-branch-clause-absent : goal.are_absent-returns-then-not-branch-clause-absent
are_absent-returns-then-not-branch-clause-absent t c = λ types.
    (λ e. absurd (false≢true e), λ gone. absurd (false≢true (sym c.if-not-branch.true ∙ (c.in_ok-is_absent.ensures.absent types).1 (gone c.loop-id.id-index (record { 0 = 0 }) (omega arith)))))

pub are_absent-loop-id-preserved : goal.are_absent-loop-id-preserved
are_absent-loop-id-preserved t c = record {
  absent = λ types. one_more_clear (IsAbsent types c.args.store.now c.args.cell) c.args.ids.now c.loop-id.id-index (record { 0 = 0 }) (omega arith) (c.loop-id.invariant.absent types) ((c.in_ok-is_absent.ensures.absent types).0 c.if-not-branch.false);
  seen = c.in_ok-is_absent.ensures.seen;
}

pub are_absent-returns-clause-absent : goal.are_absent-returns-clause-absent
are_absent-returns-clause-absent t c = λ types.
    (λ e. subst (All (IsAbsent types c.args.store.now c.args.cell)) (take_all c.loop-id.id-index c.args.ids.now (omega arith)) (c.loop-id.invariant.absent types), λ gone. refl)
