use Rattle.std.proofs.Common.{List, map, sym, ap, ◌∙◌}
use Rattle.ab_term.specs.Terms.{logical, spine, terms_of}
use Rattle.ab_norm.specs.ab_store.specs.declared.node.TermId.{TermId}
use Rattle.ab_norm.specs.ab_store.specs.declared.node.Node.TheVariants.{Spine}
use Rattle.ab_norm.specs.ab_store.specs.Trees.{tree_of, node_tree, logical_of}
use Rattle.ab_search_trees.specs.Judgements.{opened_once}
use Rattle.ab_search_ways.proofs.LayerMade.{if_some}
use Rattle.ab_search_ways.proofs.layers.parts_of.Goals as goal

pub returns-in-Logic-clause-reads : goal.returns-in-Logic-clause-reads
returns-in-Logic-clause-reads c = λ types.
    let S = c.args.store.now in
    c.parts_by.ensures.reads types ∙ ap opened_once
    (ap (λ (ts : List TermId). spine (logical (logical_of types c.in-Logic.constant)) (terms_of (map (tree_of types S) ts))) c.as_slice.ensures
    ∙ sym (c.view.ensures.tree types ∙ ap (node_tree types S) c.in-Spine.is ∙ ap (λ h. node_tree types S (Spine h c.in-Spine.args)) c.in-Logic.is))

pub returns-in-Logic-clause-made : goal.returns-in-Logic-clause-made
returns-in-Logic-clause-made c =
    let S = c.args.store.now in
    if_some c.parts_by.result (λ p made types.
    c.view.ensures.tree types ∙ ap (node_tree types S) c.in-Spine.is ∙ ap (λ h. node_tree types S (Spine h c.in-Spine.args)) c.in-Logic.is
    ∙ sym (ap (λ (ts : List TermId). spine (logical (logical_of types c.in-Logic.constant)) (terms_of (map (tree_of types S) ts))) c.as_slice.ensures)
    ∙ made types) c.parts_by.ensures.made
