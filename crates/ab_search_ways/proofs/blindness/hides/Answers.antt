use Rattle.std.proofs.Common.{List, map, sym, ap, ◌∙◌}
use Rattle.ab_term.specs.Terms.{logical, spine, terms_of}
use Rattle.ab_norm.specs.ab_store.specs.declared.node.TermId.{TermId}
use Rattle.ab_norm.specs.ab_store.specs.declared.node.Node.TheVariants.{Spine}
use Rattle.ab_norm.specs.ab_store.specs.Trees.{tree_of, node_tree, logical_of}
use Rattle.ab_unify.specs.Problem.{variables_read}
use Rattle.ab_search_trees.specs.Judgements.{hides}
use Rattle.ab_search_ways.proofs.blindness.hides.Goals as goal

pub returns-in-Logic : goal.returns-in-Logic
returns-in-Logic c = λ types.
    let S = c.args.store.now in
    c.hides_by.ensures types ∙ ap (hides (variables_read types S c.args.flexible.now))
    (ap (λ (ts : List TermId). spine (logical (logical_of types c.in-Logic.constant)) (terms_of (map (tree_of types S) ts))) c.as_slice.ensures
    ∙ sym (c.view.ensures.tree types ∙ ap (node_tree types S) c.in-Spine.is ∙ ap (λ h. node_tree types S (Spine h c.in-Spine.args)) c.in-Logic.is))
