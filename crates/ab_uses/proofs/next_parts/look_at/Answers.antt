use Rattle.std.proofs.Common.{List, map, sym, ap, subst, ◌∙◌}
use Rattle.ab_term.specs.Terms.{spine, terms_of}
use Rattle.ab_norm.specs.ab_store.specs.Naming.{HeadIsTyped, NodeIsTyped}
use Rattle.ab_norm.specs.ab_store.specs.declared.node.TermId.{TermId}
use Rattle.ab_norm.specs.ab_store.specs.Trees.{tree_of, head_in, logical_of, node_tree}
use Rattle.ab_uses.specs.Layers.{layer_of, layer_by}
use Rattle.ab_uses.proofs.next_parts.look_at.Goals as goal

pub returns-in-Logic-clause-reads : goal.returns-in-Logic-clause-reads
returns-in-Logic-clause-reads c = λ types.
    let store = c.args.store.now in
    c.look_by.ensures.reads types
    ∙ ap (λ (ts : List TermId). layer_by (logical_of types c.in-Logic.logical) (terms_of (map (tree_of types store) ts))) c.as_slice.ensures
    ∙ sym (ap layer_of (c.view.ensures.tree types ∙ ap (node_tree types store) c.in-Spine.is)
    ∙ ap (λ h. layer_of (spine (head_in types store.cells h) (terms_of (map (tree_of types store) c.in-Spine.args)))) c.in-Logic.is)

pub returns-in-Logic-clause-typed : goal.returns-in-Logic-clause-typed
returns-in-Logic-clause-typed c = λ types is.
    c.look_by.ensures.typed types (subst (HeadIsTyped types) c.in-Logic.is (subst (NodeIsTyped types) c.in-Spine.is (c.view.ensures.typed types is)))
