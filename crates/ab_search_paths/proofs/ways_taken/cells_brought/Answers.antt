use Rattle.std.proofs.Common.{sym, subst, arith}
use Rattle.std.specs.List.{All}
use Rattle.std.proofs.lemmas.List.Elements.{All-push}
use Rattle.ab_norm.specs.ab_store.specs.Trees.{HoldsCell}
use Rattle.ab_walk.specs.ab_next_ways.specs.ab_search_ways.specs.Answers.{HoldsValue}
use Rattle.ab_search_paths.proofs.ways_taken.cells_brought.Goals as goal

pub loop-place-preserved : goal.loop-place-preserved
loop-place-preserved c = λ types store all.
    let here = c.index.ensures in
    let push = c.in_ok-push.ensures.items in
    let before = c.loop-place.invariant types store all in
    subst (All (HoldsCell store)) (sym push) (All-push (HoldsCell store) c.loop-place.list.items c.index.result.now.cell before
    (subst (HoldsValue types store) (sym here) (all c.loop-place.place c.index.result.now (let t = c.loop-place-test.true in let e = c.len-place-end.ensures in omega (arith, t, e)))).cell)
