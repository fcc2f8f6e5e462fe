use Rattle.std.proofs.Common.{arith, refl}
use Rattle.ab_norm.proofs.Compared.{apart}
use Rattle.ab_norm.proofs.Completed.{moved_here, moved_next}
use Rattle.ab_norm.proofs.permutation_tables.moved_constant.Goals as goal

pub returns-then-is_one : goal.returns-then-is_one
returns-then-is_one c = λ types ok held ha. (
  (held c.loop-swap.swap-index _ (omega arith)).1,
  moved_here types ok c.args.a c.args.table.now c.loop-swap.swap-index _ _ (omega arith) refl (c.is_one.ensures.0 c.if-is_one.true) (c.loop-swap.invariant types ok held ha),
)

pub loop-swap-preserved : goal.loop-swap-preserved
loop-swap-preserved c = λ types ok held ha.
    moved_next types ok c.args.a c.args.table.now c.loop-swap.swap-index _ _ held ha (omega arith) refl (apart c.is_one.result c.if-is_one.false c.is_one.ensures) (c.loop-swap.invariant types ok held ha)
