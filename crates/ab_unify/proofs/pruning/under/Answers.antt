use Rattle.ab_unify.proofs.Under.{under_next, under_names}
use Rattle.std.proofs.Common.{arith}
use Rattle.ab_unify.proofs.pruning.under.Goals as goal

pub loop-name-preserved : goal.loop-name-preserved
loop-name-preserved c = record {
  reads = λ types store. under_next types store c.args.names.now c.loop-name.inner.items _ _ c.loop-name.name-index _ (omega arith) (c.loop-name.invariant.reads types store) c.in_ok-push-2.ensures.items (c.in_ok-shift_head.ensures.reads types store);
  names = λ types all. under_names types c.args.names.now c.loop-name.inner.items _ _ c.loop-name.name-index _ (omega arith) all (c.loop-name.invariant.names types all) c.in_ok-push-2.ensures.items (c.in_ok-shift_head.ensures.typed types) (c.in_ok-shift_head.ensures.reads types);
}
