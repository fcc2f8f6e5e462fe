use Rattle.std.proofs.Common.{arith, refl}
use Rattle.ab_norm.proofs.Completed.{one_more_exchanged}
use Rattle.ab_norm.proofs.permutation_tables.exchange.Goals as goal

pub loop-swap-preserved : goal.loop-swap-preserved
loop-swap-preserved c = λ types ok hx hy held.
    one_more_exchanged types ok c.args.x c.args.y c.other_of.result c.args.table.now c.loop-swap.made.items c.push.new.self.items c.loop-swap.swap-index _ _ hx hy held
    (c.loop-swap.invariant types ok hx hy held) (omega arith) refl c.other_of.ensures.first c.other_of.ensures.second c.other_of.ensures.neither c.in_ok-push.ensures.items
