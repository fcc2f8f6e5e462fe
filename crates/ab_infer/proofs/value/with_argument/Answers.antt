use Rattle.std.proofs.Common.{codes, ap, sym, ◌∙◌}
use Rattle.ab_norm.specs.ab_types.specs.Ids.{type_of}
use Rattle.ab_term.specs.Terms.{term, joined}
use Rattle.ab_term.specs.Expansion.{expansion_of}
use Rattle.ab_norm.specs.ab_store.specs.Trees.{head_reading, tree_of}
use Rattle.ab_meaning.specs.Normal.{left_type}
use Rattle.ab_infer.specs.Values.{means, trees_of}
use Rattle.ab_infer.proofs.Means.{head_given}
use Rattle.ab_infer.proofs.value.with_argument.Goals as goal

pub returns-in_ok-with_last-in-Given-clause-means : goal.returns-in_ok-with_last-in-Given-clause-means
returns-in_ok-with_last-in-Given-clause-means g c = λ us.
    let t = c.args.types.now in
    let s = c.args.store.now in
    let v = c.in-Given in
    let rest = c.rest_of-rest.result in
    ap (λ ts. expansion_of (codes "x") (left_type (type_of t rest) us) (head_reading t s v.head) (joined (trees_of t s ts) us)) c.in_ok-with_last-in-Given.ensures
    ∙ head_given t s v.head (type_of t v.ty) (type_of t rest) v.args c.args.argument us (c.rest_of-rest.ensures.left (tree_of t s c.args.argument) us)
    ∙ sym (ap (λ w. means t s w (term (tree_of t s c.args.argument) us)) v.is)
