use Rattle.std.proofs.Common.{codes, ap, sym, ◌∙◌}
use Rattle.ab_norm.specs.ab_types.specs.Ids.{type_of}
use Rattle.ab_term.specs.Terms.{no_terms}
use Rattle.ab_term.specs.Expansion.{expansion_of}
use Rattle.ab_norm.specs.ab_store.specs.Trees.{head_reading}
use Rattle.ab_norm.proofs.Frame.{if_ok}
use Rattle.ab_infer.specs.Values.{means, trees_of}
use Rattle.ab_infer.proofs.Means.{finished}
use Rattle.ab_infer.proofs.value.finish.Goals as goal

pub returns-in-Given-clause-tree : goal.returns-in-Given-clause-tree
returns-in-Given-clause-tree c =
    let t = c.args.types.now in
    let s = c.args.store.now in
    let g = c.in-Given in
    let A = type_of t g.ty in
    if_ok c.eta_given.result (λ r h. h
    ∙ ap (λ ts. expansion_of (codes "x") A (head_reading t s g.head) (trees_of t s ts)) c.into_vec.ensures
    ∙ finished t s g.head A g.args
    ∙ sym (ap (λ w. means t s w no_terms) g.is)) c.eta_given.ensures.tree
