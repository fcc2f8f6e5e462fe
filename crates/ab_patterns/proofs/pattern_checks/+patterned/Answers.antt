use Rattle.std.proofs.Common.{◌<◌, ◌≤◌, arith, refl, sym, ◌∙◌, subst, get_or}
use Rattle.std.specs.List.{All}
use Rattle.std.proofs.lemmas.Bool.{false≢true}
use Rattle.std.proofs.lemmas.List.{take_all}
use Rattle.std.proofs.lemmas.List.Elements.{All-same}
use Rattle.ab_norm.specs.ab_store.specs.declared.node.TermId.{TermId}
use Rattle.ab_norm.specs.ab_store.specs.Bindings.{IsResolved}
use Rattle.ab_norm.proofs.Bounds.{ids_bound, bound_within, below_bound}
use Rattle.ab_norm.proofs.Frame.{if_ok, spine_names, typed_on}
use Rattle.ab_norm.proofs.Resolved.{resolved_spine, one_more_clear}
use Rattle.ab_patterns.specs.ReadingWalks.{IsPatterned}
use Rattle.ab_patterns.proofs.Resolved.{still_resolved}
use Rattle.ab_patterns.proofs.PatternedTerms.{on_any, patterned_lam, patterned_flexible, patterned_spine, patterned_before, all_patterned_on}
use Rattle.ab_patterns.proofs.pattern_checks.+patterned.Goals as goal

pub are_patterned-is_patterned-requires : goal.are_patterned-is_patterned-requires
are_patterned-is_patterned-requires t c =
    let i = c.loop-id.id-index in
    let below : (get_or c.args.ids.now i (record { 0 = 0 })).0 < ids_bound c.args.ids.now = below_bound c.args.ids.now i (record { 0 = 0 }) (omega arith) in
    let held = c.requires.ids i (record { 0 = 0 }) (omega arith) in
    let more = c.loop-id.invariant.adds.before in
    (omega (arith, below, c.decreases), (c.loop-id.invariant.adds.typed, (more.ids _ held, (still_resolved c.args.store.now c.loop-id.store more _ held (c.requires.resolved i (record { 0 = 0 }) (omega arith)), c.loop-id.invariant.seen))))

pub are_patterned-returns-in_err-is_patterned-clause-adds : goal.are_patterned-returns-in_err-is_patterned-clause-adds
are_patterned-returns-in_err-is_patterned-clause-adds t c = typed_on c.args.types.now c.args.store.now c.loop-id.store c.is_patterned.new.store c.loop-id.invariant.adds c.in_err-is_patterned.ensures.adds

pub are_patterned-returns-then-not-branch-clause-adds : goal.are_patterned-returns-then-not-branch-clause-adds
are_patterned-returns-then-not-branch-clause-adds t c = typed_on c.args.types.now c.args.store.now c.loop-id.store c.is_patterned.new.store c.loop-id.invariant.adds c.in_ok-is_patterned.ensures.adds

pub are_patterned-returns-then-not-branch-clause-patterned : goal.are_patterned-returns-then-not-branch-clause-patterned
are_patterned-returns-then-not-branch-clause-patterned t c =
    let i = c.loop-id.id-index in
    let adds = c.loop-id.invariant.adds in
    let here = patterned_before c.args.types.now c.args.store.now c.loop-id.store adds.before adds.cells c.args.cells.now.items (get_or c.args.ids.now i (record { 0 = 0 })) (c.requires.ids i (record { 0 = 0 }) (omega arith)) _ c.in_ok-is_patterned.ensures.patterned in
    (λ e. absurd (false≢true e), λ all. absurd (false≢true (sym c.if-not-branch.true ∙ here.1 (all i (record { 0 = 0 }) (omega arith)))))

pub are_patterned-loop-id-preserved : goal.are_patterned-loop-id-preserved
are_patterned-loop-id-preserved t c =
    let i = c.loop-id.id-index in
    let adds = c.loop-id.invariant.adds in
    let here = patterned_before c.args.types.now c.args.store.now c.loop-id.store adds.before adds.cells c.args.cells.now.items (get_or c.args.ids.now i (record { 0 = 0 })) (c.requires.ids i (record { 0 = 0 }) (omega arith)) _ c.in_ok-is_patterned.ensures.patterned in
    record {
      adds = typed_on c.args.types.now c.args.store.now c.loop-id.store c.is_patterned.new.store adds c.in_ok-is_patterned.ensures.adds;
      patterned = one_more_clear (IsPatterned c.args.types.now c.args.store.now c.args.cells.now.items) c.args.ids.now i (record { 0 = 0 }) (omega arith) c.loop-id.invariant.patterned (here.0 c.if-not-branch.false);
      seen = c.in_ok-is_patterned.ensures.seen;
    }

pub are_patterned-returns-clause-patterned : goal.are_patterned-returns-clause-patterned
are_patterned-returns-clause-patterned t c =
    (λ e. subst (All (IsPatterned c.args.types.now c.args.store.now c.args.cells.now.items)) (take_all c.loop-id.id-index c.args.ids.now (omega arith)) c.loop-id.invariant.patterned, λ all. refl)

pub is_patterned_in-is_given_names-requires-clause-resolved : goal.is_patterned_in-is_given_names-requires-clause-resolved
is_patterned_in-is_given_names-requires-clause-resolved t c =
    let clear = ((resolved_spine c.args.store.now c.args.id c.args.node.now c.in-Spine.head c.in-Spine.args c.requires.node c.in-Spine.is).0 c.requires.resolved).1 in
    All-same (IsResolved c.args.store.now) _ _ c.as_slice.ensures clear

pub is_patterned_in-are_patterned-requires : goal.is_patterned_in-are_patterned-requires
is_patterned_in-are_patterned-requires t c =
    let names = spine_names _ _ c.args.node.now c.in-Spine.head c.in-Spine.args c.in-Spine.is c.requires.names in
    let here : All (λ r. r.0 < c.args.id.0) c.as_slice-else-is_flexible.result.now = All-same (λ (r : TermId). r.0 < c.args.id.0) _ _ c.as_slice-else-is_flexible.ensures names.1 in
    let bound : ids_bound c.as_slice-else-is_flexible.result.now ≤ c.args.id.0 = bound_within c.args.id.0 _ here in
    let clear = ((resolved_spine c.args.store.now c.args.id c.args.node.now c.in-Spine.head c.in-Spine.args c.requires.node c.in-Spine.is).0 c.requires.resolved).1 in
    (omega (arith, bound, c.decreases), (c.requires.store, (λ k d l. omega (arith, here k d l, c.requires.id), (All-same (IsResolved c.args.store.now) _ _ c.as_slice-else-is_flexible.ensures clear, c.requires.seen))))

pub is_patterned_in-returns-in-Lam-clause-patterned : goal.is_patterned_in-returns-in-Lam-clause-patterned
is_patterned_in-returns-in-Lam-clause-patterned t c =
    if_ok c.is_patterned.result (λ r known. patterned_lam c.args.types.now c.args.store.now c.args.cells.now.items c.args.id c.args.node.now c.in-Lam.field-0 c.in-Lam.field-1 c.in-Lam.body (c.requires.node c.args.types.now) c.in-Lam.is r known) c.is_patterned.ensures.patterned

pub is_patterned_in-returns-then-is_flexible-clause-patterned : goal.is_patterned_in-returns-then-is_flexible-clause-patterned
is_patterned_in-returns-then-is_flexible-clause-patterned t c =
    let types = c.args.types.now in
    if_ok c.is_given_names.result (λ r known. patterned_flexible types c.args.store.now c.args.cells.now.items c.args.id c.args.node.now c.in-Spine.head c.as_slice.result.now c.in-Spine.args (c.requires.node types) c.in-Spine.is c.as_slice.ensures (sym c.if-is_flexible.true ∙ c.is_flexible.ensures types c.args.store.now) r known) c.is_given_names.ensures.reads

pub is_patterned_in-returns-then-is_flexible-clause-seen : goal.is_patterned_in-returns-then-is_flexible-clause-seen
is_patterned_in-returns-then-is_flexible-clause-seen t c =
    on_any c.is_given_names.result (all_patterned_on c.args.types.now c.args.store.now c.is_given_names.new.store c.is_given_names.ensures.adds.before c.is_given_names.ensures.adds.cells c.args.cells.now.items c.args.seen.now c.requires.seen)

pub is_patterned_in-returns-else-is_flexible-clause-patterned : goal.is_patterned_in-returns-else-is_flexible-clause-patterned
is_patterned_in-returns-else-is_flexible-clause-patterned t c =
    let types = c.args.types.now in
    if_ok c.are_patterned.result (λ r known. patterned_spine types c.args.store.now c.args.cells.now.items c.args.id c.args.node.now c.in-Spine.head c.as_slice-else-is_flexible.result.now c.in-Spine.args (c.requires.node types) c.in-Spine.is c.as_slice-else-is_flexible.ensures (sym c.if-is_flexible.false ∙ c.is_flexible.ensures types c.args.store.now) r known) c.are_patterned.ensures.patterned
