use Rattle.std.proofs.Common.{◌≢◌, length, map, sym, ap, ◌∙◌, rules}
use Rattle.ab_term.specs.Terms.{terms_of}
use Rattle.ab_norm.specs.ab_types.specs.Ids.{type_of}
use Rattle.ab_norm.specs.ab_store.specs.Trees.{tree_of, logical_of}
use Rattle.ab_uses.specs.Layers.{layer_by}
use Rattle.ab_uses.proofs.Counts.{not_one_universal, not_one_nabla, not_two}
use Rattle.ab_uses.proofs.next_parts.look_by.Goals as goal

pub returns-else-args-eq1-clause-reads : goal.returns-else-args-eq1-clause-reads
returns-else-args-eq1-clause-reads c = λ types.
    let f = tree_of types c.args.store.now in
    let other : length c.args.args.now ≢ 1 = search rules in
    sym (ap (λ l. layer_by (logical_of types l) (terms_of (map f c.args.args.now))) c.in-Forall.is ∙ not_one_universal f (type_of types c.in-Forall.ty) c.args.args.now other)

pub returns-else-args-eq1-2-clause-reads : goal.returns-else-args-eq1-2-clause-reads
returns-else-args-eq1-2-clause-reads c = λ types.
    let f = tree_of types c.args.store.now in
    let other : length c.args.args.now ≢ 1 = search rules in
    sym (ap (λ l. layer_by (logical_of types l) (terms_of (map f c.args.args.now))) c.in-Nabla.is ∙ not_one_nabla f (type_of types c.in-Nabla.ty) c.args.args.now other)

pub returns-else-args-eq2-clause-reads : goal.returns-else-args-eq2-clause-reads
returns-else-args-eq2-clause-reads c = λ types.
    let f = tree_of types c.args.store.now in
    let other : length c.args.args.now ≢ 2 = search rules in
    sym (ap (λ l. layer_by (logical_of types l) (terms_of (map f c.args.args.now))) c.in-Arrow.is ∙ not_two f c.args.args.now other)
