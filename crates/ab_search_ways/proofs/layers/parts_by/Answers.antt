use Rattle.std.proofs.Common.{◌≡◌, ◌≢◌, length, map, sym, ap, ◌∙◌, rules}
use Rattle.ab_term.specs.Terms.{logical, spine, terms_of}
use Rattle.ab_norm.specs.ab_store.specs.Trees.{tree_of, logical_of}
use Rattle.ab_search_trees.specs.Judgements.{opened_once}
use Rattle.ab_search_ways.proofs.LayerMade.{two_judged}
use Rattle.ab_search_ways.proofs.OtherCounts.{opened_by_two}
use Rattle.ab_search_ways.proofs.layers.parts_by.Goals as goal

pub returns-else-args-eq2-clause-reads : goal.returns-else-args-eq2-clause-reads
returns-else-args-eq2-clause-reads c = λ types.
    let f = tree_of types c.args.store.now in
    let ts = terms_of (map f c.args.args.now) in
    let other : length c.args.args.now ≢ 2 = search rules in
    sym (ap (λ l. opened_once (spine (logical (logical_of types l)) ts)) c.in-Judge.is ∙ opened_by_two f c.args.args.now other)

pub returns-then-args-eq2-clause-made : goal.returns-then-args-eq2-clause-made
returns-then-args-eq2-clause-made c = λ types.
    let f = tree_of types c.args.store.now in
    let two : length c.args.args.now ≡ 2 = search rules in
    ap (λ l. spine (logical (logical_of types l)) (terms_of (map f c.args.args.now))) c.in-Judge.is ∙ two_judged f (record { 0 = 0 }) c.args.args.now two
