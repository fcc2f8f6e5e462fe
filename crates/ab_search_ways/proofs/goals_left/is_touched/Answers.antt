use Rattle.std.proofs.Common.{◌≤◌, List, length, subst, arith, take_all}
use Rattle.std.specs.List.{All}
use Rattle.ab_norm.specs.ab_store.specs.declared.node.TermId.{TermId}
use Rattle.ab_search_ways.proofs.Untouched.{IsPlain, plain_untouched}
use Rattle.ab_search_ways.proofs.goals_left.is_touched.Goals as goal

pub returns : goal.returns
returns c = λ none types.
    let store = c.args.store.now in
    let g = c.args.goal.now in
    let whole : length g.added.items ≤ c.loop-id.id-index = subst (λ (l : List TermId). length l ≤ c.loop-id.id-index) c.deref-id-items.ensures.value (omega (arith, c.loop-id-test.false)) in
    plain_untouched types store g (subst (All (IsPlain types store)) (take_all c.loop-id.id-index g.added.items whole) (c.loop-id.invariant types)) (c.has_bound_cells-2.ensures.reads none types)
