use Rattle.std.proofs.Common.{arith}
use Rattle.ab_store.specs.Trees.{tree_of}
use Rattle.ab_store.proofs.Told.{told_more}
use Rattle.ab_store.proofs.store.Store.facts_of_all.Goals as goal

pub loop-id-preserved : goal.loop-id-preserved
loop-id-preserved c = λ types.
    told_more (tree_of types c.args.self.now) c.args.ids.now c.loop-id.id-index (record { 0 = 0 }) c.and-facts.result (omega arith)
    (c.and-facts.ensures _ _ _ _ _ _ (c.loop-id.invariant types) (c.facts.ensures.tree types))
