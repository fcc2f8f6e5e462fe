use Rattle.std.proofs.Common.{List, map, sym, ap, subst, ◌∙◌}
use Rattle.ab_term.specs.Terms.{spine, terms_of}
use Rattle.ab_norm.specs.ab_store.specs.declared.node.TermId.{TermId}
use Rattle.ab_norm.specs.ab_store.specs.Naming.{NodeIsTyped}
use Rattle.ab_norm.specs.ab_store.specs.Trees.{tree_of, head_in, node_tree}
use Rattle.ab_judgement_forms.specs.ListItems.{first_item}
use Rattle.ab_judgement_forms.proofs.cut_lists.first_item.Goals as goal

pub first_by-requires-clause-head : goal.first_by-requires-clause-head
first_by-requires-clause-head c = subst (NodeIsTyped c.args.types.now) c.in-Spine.is (c.view.ensures.typed c.args.types.now c.requires.store)

pub returns-in-Spine-clause-reads : goal.returns-in-Spine-clause-reads
returns-in-Spine-clause-reads c =
    let types = c.args.types.now in
    let store = c.args.store.now in
    let h = head_in types store.cells c.in-Spine.head in
    c.first_by.ensures.reads
    ∙ ap (λ (ts : List TermId). first_item (spine h (terms_of (map (tree_of types store) ts)))) c.as_slice.ensures
    ∙ sym (ap first_item (c.view.ensures.tree types ∙ ap (node_tree types store) c.in-Spine.is))
