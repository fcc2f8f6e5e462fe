use Rattle.std.proofs.Common.{List, ◌≢◌, map, length, sym, ap, ◌∙◌, rules}
use Rattle.ab_term.specs.Logical.{conjunction}
use Rattle.ab_term.specs.Terms.{logical, spine, terms_of}
use Rattle.ab_norm.specs.ab_store.specs.declared.node.TermId.{TermId}
use Rattle.ab_norm.specs.ab_store.specs.declared.node.Node.TheVariants.{Spine}
use Rattle.ab_norm.specs.ab_store.specs.declared.node.Head.TheVariants.{Logic}
use Rattle.ab_norm.specs.ab_store.specs.Trees.{tree_of, node_tree}
use Rattle.ab_formulas.specs.Forms.{as_both}
use Rattle.ab_sequents.proofs.Halves.{not_both}
use Rattle.ab_sequents.proofs.conjunctions.halves.Goals as goal

pub returns-else-args-eq2-clause-reads : goal.returns-else-args-eq2-clause-reads
returns-else-args-eq2-clause-reads c types =
    let f = tree_of types c.args.store.now in
    let ts = c.as_slice-args.result.now in
    let other : length ts ≢ 2 = search rules in
    not_both f ts other
    ∙ ap (λ (us : List TermId). as_both (spine (logical conjunction) (terms_of (map f us)))) c.as_slice-args.ensures
    ∙ sym (ap as_both (c.view.ensures.tree types ∙ ap (node_tree types c.args.store.now) c.in-Spine.is ∙ ap (λ h. node_tree types c.args.store.now (Spine h c.in-Spine.args)) c.in-Logic.is ∙ ap (λ l. node_tree types c.args.store.now (Spine (Logic l) c.in-Spine.args)) c.in-And.is))
