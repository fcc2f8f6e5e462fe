use Rattle.std.proofs.Common.{List, map, sym, ap, subst, ◌∙◌}
use Rattle.ab_term.specs.Terms.{logical, spine, terms_of}
use Rattle.ab_norm.specs.ab_store.specs.declared.node.TermId.{TermId}
use Rattle.ab_norm.specs.ab_store.specs.declared.node.Node.TheVariants.{Spine}
use Rattle.ab_norm.specs.ab_store.specs.Trees.{tree_of, node_tree, logical_of}
use Rattle.ab_search_ways.specs.Blindness.{IsSeen}
use Rattle.ab_search_ways.proofs.blindness.taken_apart.Goals as goal

pub returns-in-Logic-clause-seen : goal.returns-in-Logic-clause-seen
returns-in-Logic-clause-seen c = λ types.
    let S = c.args.store.now in
    subst (λ r. IsSeen types S r c.seen_by.result)
    (ap (λ (ts : List TermId). spine (logical (logical_of types c.in-Logic.constant)) (terms_of (map (tree_of types S) ts))) c.as_slice.ensures
    ∙ sym (c.view.ensures.tree types ∙ ap (node_tree types S) c.in-Spine.is ∙ ap (λ h. node_tree types S (Spine h c.in-Spine.args)) c.in-Logic.is))
    (c.seen_by.ensures.seen types)
