use Rattle.std.proofs.Common.{◌≢◌, length, map, sym, ap, ◌∙◌, rules}
use Rattle.ab_term.specs.Terms.{terms_of}
use Rattle.ab_norm.specs.ab_types.specs.Ids.{type_of}
use Rattle.ab_norm.specs.ab_store.specs.Trees.{tree_of, logical_of}
use Rattle.ab_judgement_forms.specs.Shapes.{shape_by}
use Rattle.ab_judgement_forms.proofs.Connectives.{not_one, not_two}
use Rattle.ab_judgement_forms.proofs.shapes.shape_by.Goals as goal

pub returns-else-args-eq1-clause-reads : goal.returns-else-args-eq1-clause-reads
returns-else-args-eq1-clause-reads c = λ types.
    let f = tree_of types c.args.store.now in
    let ts = terms_of (map f c.args.args.now) in
    let other : length c.args.args.now ≢ 1 = search rules in
    sym (ap (λ l. shape_by (logical_of types l) ts) c.in-Pi.is ∙ not_one f (type_of types c.in-Pi.ty) c.args.args.now other)

pub returns-else-args-eq2-clause-reads : goal.returns-else-args-eq2-clause-reads
returns-else-args-eq2-clause-reads c = λ types.
    let f = tree_of types c.args.store.now in
    let ts = terms_of (map f c.args.args.now) in
    let other : length c.args.args.now ≢ 2 = search rules in
    sym (ap (λ l. shape_by (logical_of types l) ts) c.in-Imply.is ∙ (not_two f c.args.args.now other).0)

pub returns-else-args-eq2-2-clause-reads : goal.returns-else-args-eq2-2-clause-reads
returns-else-args-eq2-2-clause-reads c = λ types.
    let f = tree_of types c.args.store.now in
    let ts = terms_of (map f c.args.args.now) in
    let other : length c.args.args.now ≢ 2 = search rules in
    sym (ap (λ l. shape_by (logical_of types l) ts) c.in-With.is ∙ (not_two f c.args.args.now other).1)
