use Rattle.std.proofs.Common.{◌≢◌, length, map, sym, ap, ◌∙◌, rules}
use Rattle.ab_term.specs.Terms.{terms_of}
use Rattle.ab_norm.specs.ab_store.specs.Trees.{tree_of, head_in}
use Rattle.ab_sequents.specs.SizeViews.{outer_by, role_read}
use Rattle.ab_sequents.proofs.Counts.{not_one, not_two}
use Rattle.ab_sequents.proofs.formula_views.look_by.Goals as goal

pub returns-else-args-eq1-clause-reads : goal.returns-else-args-eq1-clause-reads
returns-else-args-eq1-clause-reads c = λ types.
    let store = c.args.store.now in
    let h = head_in types store.cells c.args.head in
    let ts = terms_of (map (tree_of types store) c.args.args.now) in
    let other : length c.args.args.now ≢ 1 = search rules in
    sym (ap (λ r. outer_by (role_read r) h ts) c.in-Quantifier.is ∙ not_one (tree_of types store) h c.args.args.now other)

pub returns-else-args-eq2-clause-reads : goal.returns-else-args-eq2-clause-reads
returns-else-args-eq2-clause-reads c = λ types.
    let store = c.args.store.now in
    let h = head_in types store.cells c.args.head in
    let ts = terms_of (map (tree_of types store) c.args.args.now) in
    let other : length c.args.args.now ≢ 2 = search rules in
    sym (ap (λ r. outer_by (role_read r) h ts) c.in-Arrow.is ∙ not_two (tree_of types store) h c.args.args.now other)
