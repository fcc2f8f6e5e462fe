use Rattle.std.proofs.Common.{◌≢◌, length, map, sym, ap, ◌∙◌, rules}
use Rattle.ab_term.specs.Terms.{logical, spine, terms_of}
use Rattle.ab_norm.specs.ab_types.specs.Ids.{type_of}
use Rattle.ab_norm.specs.ab_store.specs.Trees.{tree_of, logical_of}
use Rattle.ab_search_trees.specs.Judgements.{layer_of}
use Rattle.ab_search_ways.proofs.OtherCounts.{with_two, imply_two, pi_one}
use Rattle.ab_search_ways.proofs.layers.layer_by.Goals as goal

pub returns-else-args-eq2-clause-reads : goal.returns-else-args-eq2-clause-reads
returns-else-args-eq2-clause-reads c = λ types L.
    let f = tree_of types c.args.store.now in
    let ts = terms_of (map f c.args.args.now) in
    let other : length c.args.args.now ≢ 2 = search rules in
    sym (ap (λ l. layer_of L (spine (logical (logical_of types l)) ts)) c.in-With.is ∙ with_two f L c.args.args.now other)

pub returns-else-args-eq2-2-clause-reads : goal.returns-else-args-eq2-2-clause-reads
returns-else-args-eq2-2-clause-reads c = λ types L.
    let f = tree_of types c.args.store.now in
    let ts = terms_of (map f c.args.args.now) in
    let other : length c.args.args.now ≢ 2 = search rules in
    sym (ap (λ l. layer_of L (spine (logical (logical_of types l)) ts)) c.in-Imply.is ∙ imply_two f L c.args.args.now other)

pub returns-else-args-eq1-clause-reads : goal.returns-else-args-eq1-clause-reads
returns-else-args-eq1-clause-reads c = λ types L.
    let f = tree_of types c.args.store.now in
    let ts = terms_of (map f c.args.args.now) in
    let other : length c.args.args.now ≢ 1 = search rules in
    sym (ap (λ l. layer_of L (spine (logical (logical_of types l)) ts)) c.in-Pi.is ∙ pi_one f L (type_of types c.in-Pi.ty) c.args.args.now other)
