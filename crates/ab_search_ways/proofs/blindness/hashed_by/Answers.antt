use Rattle.std.proofs.Common.{◌≢◌, length, map, sym, ap, ◌∙◌, rules}
use Rattle.ab_term.specs.Terms.{logical, spine, terms_of}
use Rattle.ab_norm.specs.ab_store.specs.Trees.{tree_of, logical_of}
use Rattle.ab_search_ways.specs.Blindness.{hashed}
use Rattle.ab_search_ways.proofs.OtherCounts.{hashed_by_one}
use Rattle.ab_search_ways.proofs.blindness.hashed_by.Goals as goal

pub returns-else-args-eq1-clause-reads : goal.returns-else-args-eq1-clause-reads
returns-else-args-eq1-clause-reads c = λ types.
    let f = tree_of types c.args.store.now in
    let ts = terms_of (map f c.args.args.now) in
    let other : length c.args.args.now ≢ 1 = search rules in
    sym (ap (λ l. hashed (spine (logical (logical_of types l)) ts)) c.in-Hash.is ∙ hashed_by_one f c.in-Hash.field-0 c.args.args.now other)
