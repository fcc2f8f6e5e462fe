use Rattle.std.proofs.Common.{List, map, sym, ap, subst, ◌∙◌}
use Rattle.ab_term.specs.Terms.{terms_of}
use Rattle.ab_norm.specs.ab_store.specs.declared.node.TermId.{TermId}
use Rattle.ab_norm.specs.ab_store.specs.Naming.{NodeIsTyped}
use Rattle.ab_norm.specs.ab_store.specs.Trees.{tree_of, head_in, node_tree}
use Rattle.ab_judgement_forms.specs.Shapes.{shape_of, shape_headed}
use Rattle.ab_judgement_forms.proofs.shapes.shape_of.Goals as goal

pub returns-in-Spine-clause-reads : goal.returns-in-Spine-clause-reads
returns-in-Spine-clause-reads c = λ types.
    let store = c.args.store.now in
    let h = head_in types store.cells c.in-Spine.head in
    c.shape_headed.ensures.reads types
    ∙ ap (λ (ts : List TermId). shape_headed h (terms_of (map (tree_of types store) ts))) c.as_slice.ensures
    ∙ sym (ap shape_of (c.view.ensures.tree types ∙ ap (node_tree types store) c.in-Spine.is))

pub returns-in-Spine-clause-typed : goal.returns-in-Spine-clause-typed
returns-in-Spine-clause-typed c = λ types is. c.shape_headed.ensures.typed types (subst (NodeIsTyped types) c.in-Spine.is (c.view.ensures.typed types is))
