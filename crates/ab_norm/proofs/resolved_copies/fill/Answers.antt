use Rattle.std.proofs.Common.{ap, length, arith, ◌∙◌}
use Rattle.ab_norm.proofs.Frame.{if_ok}
use Rattle.ab_norm.proofs.Resolved.{reading_clear}
use Rattle.ab_norm.proofs.PutIn.{keeps_none, put_all}
use Rattle.ab_norm.proofs.resolved_copies.fill.Goals as goal

pub resolve-requires-clause-memo : goal.resolve-requires-clause-memo
resolve-requires-clause-memo g c = keeps_none c.args.types.now c.args.store.now c.new-memo.result c.new-memo.ensures

pub returns-clause-tree : goal.returns-clause-tree
returns-clause-tree g c =
    if_ok c.resolve.result (λ r made. made ∙ put_all c.args.types.now c.args.store.now _ c.args.id (omega (arith, ap length c.bindings-count.ensures.list))) c.resolve.ensures.tree

pub returns-clause-resolved : goal.returns-clause-resolved
returns-clause-resolved g c =
    if_ok c.resolve.result (λ r made.
    reading_clear c.args.types.now c.args.store.now c.resolve.new.store c.args.id r c.resolve.ensures.adds.before.bindings c.bindings-count.ensures.order
    (made ∙ put_all c.args.types.now c.args.store.now _ c.args.id (omega (arith, ap length c.bindings-count.ensures.list)))) c.resolve.ensures.tree
