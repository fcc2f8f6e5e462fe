use Rattle.std.proofs.Common.{◌<◌, ◌≤◌, ◌∙◌, ◌&&◌, refl, ap, sym, map, arith}
use Rattle.std.specs.List.{All}
use Rattle.std.proofs.lemmas.List.Elements.{All-same}
use Rattle.ab_term.specs.Terms.{terms_of}
use Rattle.ab_store.specs.ab_types.specs.Ids.{type_of}
use Rattle.ab_store.specs.declared.node.TermId.{TermId}
use Rattle.ab_store.specs.Trees.{tree_of}
use Rattle.ab_print.specs.NameAssignment.{is_bound_name, are_last}
use Rattle.ab_print.proofs.Bounds.{ids_bound, bound_within}
use Rattle.ab_print.proofs.Cutting.{whole}
use Rattle.ab_print.proofs.Etas.{lam_name, lam_reads, last_more, bound_spine, spine_names}
use Rattle.ab_print.proofs.eta.+lasts.Goals as goal

pub are_last-returns-then-is_bound_name : goal.are_last-returns-then-is_bound_name
are_last-returns-then-is_bound_name t c = λ types.
    last_more types c.args.store.now c.args.binders c.args.ids.now _ _ c.is_bound_name.result c.are_last.result (whole c.args.ids.now (record { 0 = 0 }) c.in-len1-up.len_at_least)
    (λ e. omega (arith, e)) (c.is_bound_name.ensures types) c.if-is_bound_name.true (c.are_last.ensures types)

pub is_bound_name-are_last-requires : goal.is_bound_name-are_last-requires
is_bound_name-are_last-requires t c =
    let names = spine_names _ _ c.view.result.now c.in-Spine.head c.in-Spine.args c.in-Spine.is c.view.ensures.earlier in
    let here : All (λ r. r.0 < c.args.id.0) c.as_slice.result.now = All-same (λ (r : TermId). r.0 < c.args.id.0) _ _ c.as_slice.ensures names.1 in
    let bound : ids_bound c.as_slice.result.now ≤ c.args.id.0 = bound_within c.args.id.0 _ here in
    (omega (arith, bound, c.decreases), ((λ k d l. omega (arith, here k d l, c.requires.held)), (λ k d l. omega (arith, here k d l, c.requires.room))))

pub is_bound_name-returns-in-Lam : goal.is_bound_name-returns-in-Lam
is_bound_name-returns-in-Lam t c = λ types.
    c.is_bound_name.ensures types ∙ lam_name (type_of types c.in-Lam.field-0) c.in-Lam.field-1 c.args.binders c.args.index (tree_of types c.args.store.now c.in-Lam.body)
    ∙ ap (λ w. is_bound_name c.args.binders c.args.index w) (sym (lam_reads types c.args.store.now c.args.id c.view.result.now c.in-Lam.field-0 c.in-Lam.field-1 c.in-Lam.body (c.view.ensures.tree types) c.in-Lam.is))

pub is_bound_name-returns-then-is_index : goal.is_bound_name-returns-then-is_index
is_bound_name-returns-then-is_index t c = λ types.
    c.are_last.ensures types
    ∙ ap (λ w. w && are_last c.args.binders (terms_of (map (tree_of types c.args.store.now) c.as_slice.result.now))) (sym c.if-is_index.true)
    ∙ sym (bound_spine types c.args.store.now c.args.id c.view.result.now c.in-Spine.head c.in-Spine.args c.as_slice.result.now c.args.index c.args.binders c.is_index.result
    (c.view.ensures.tree types) c.in-Spine.is c.as_slice.ensures (c.is_index.ensures types c.args.store.now c.args.binders))

pub is_bound_name-returns-else-is_index : goal.is_bound_name-returns-else-is_index
is_bound_name-returns-else-is_index t c = λ types.
    ap (λ w. w && are_last c.args.binders (terms_of (map (tree_of types c.args.store.now) c.in-Spine.args))) (sym c.if-is_index.false)
    ∙ sym (bound_spine types c.args.store.now c.args.id c.view.result.now c.in-Spine.head c.in-Spine.args c.in-Spine.args c.args.index c.args.binders c.is_index.result
    (c.view.ensures.tree types) c.in-Spine.is refl (c.is_index.ensures types c.args.store.now c.args.binders))
