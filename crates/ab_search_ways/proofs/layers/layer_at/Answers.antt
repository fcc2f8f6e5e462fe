use Rattle.std.proofs.Common.{List, map, sym, ap, subst, ◌∙◌}
use Rattle.ab_term.specs.Terms.{logical, spine, terms_of}
use Rattle.ab_norm.specs.ab_store.specs.declared.node.TermId.{TermId}
use Rattle.ab_norm.specs.ab_store.specs.declared.node.Node.TheVariants.{Spine}
use Rattle.ab_norm.specs.ab_store.specs.Naming.{NodeIsTyped, HeadIsTyped}
use Rattle.ab_norm.specs.ab_store.specs.Trees.{tree_of, node_tree, logical_of}
use Rattle.ab_search_trees.specs.Judgements.{layer_of}
use Rattle.ab_search_ways.proofs.layers.layer_at.Goals as goal

pub returns-in-Logic-clause-reads : goal.returns-in-Logic-clause-reads
returns-in-Logic-clause-reads c = λ types L.
    let S = c.args.store.now in
    c.layer_by.ensures.reads types L ∙ ap (layer_of L)
    (ap (λ (ts : List TermId). spine (logical (logical_of types c.in-Logic.constant)) (terms_of (map (tree_of types S) ts))) c.as_slice.ensures
    ∙ sym (c.view.ensures.tree types ∙ ap (node_tree types S) c.in-Spine.is ∙ ap (λ h. node_tree types S (Spine h c.in-Spine.args)) c.in-Logic.is))

pub returns-in-Logic-clause-typed : goal.returns-in-Logic-clause-typed
returns-in-Logic-clause-typed c = λ types is. c.layer_by.ensures.typed types (subst (HeadIsTyped types) c.in-Logic.is (subst (NodeIsTyped types) c.in-Spine.is (c.view.ensures.typed types is)))
