use Rattle.std.proofs.Common.{◌≡◌, List, map, sym, ap, ◌∙◌}
use Rattle.ab_term.specs.Terms.{spine, terms_of}
use Rattle.ab_norm.specs.ab_store.specs.declared.node.TermId.{TermId}
use Rattle.ab_norm.specs.ab_store.specs.Trees.{tree_of, head_in, node_tree}
use Rattle.ab_formulas.specs.Marks.{marks_of}
use Rattle.ab_sequents.proofs.mark_order.+look_at.Goals as goal

pub returns-in-Spine-clause-seen : goal.returns-in-Spine-clause-seen
returns-in-Spine-clause-seen t c = λ types.
    let store = c.args.store.now in
    c.marks_under_head.ensures.seen types
    ∙ ap (λ (ts : List TermId). marks_of (spine (head_in types store.cells c.in-Spine.head) (terms_of (map (tree_of types store) ts)))) c.as_slice.ensures
    ∙ sym (ap marks_of (c.view.ensures.tree types ∙ ap (node_tree types store) c.in-Spine.is))
