use Rattle.std.proofs.Common.{arith, refl}
use Rattle.ab_norm.proofs.Compared.{apart}
use Rattle.ab_norm.proofs.Completed.{moved_here, moved_next}
use Rattle.ab_search_paths.proofs.likeness.moved_constant.Goals as goal

pub returns-then-are_same : goal.returns-then-are_same
returns-then-are_same c = λ types ok held ha. (
  (held c.loop-pair.pair-index _ (omega arith)).1,
  moved_here types ok c.args.a c.args.pairs.now c.loop-pair.pair-index _ _ (omega arith) refl (c.are_same.ensures.0 c.if-are_same.true) (c.loop-pair.invariant types ok held ha),
)

pub loop-pair-preserved : goal.loop-pair-preserved
loop-pair-preserved c = λ types ok held ha.
    moved_next types ok c.args.a c.args.pairs.now c.loop-pair.pair-index _ _ held ha (omega arith) refl (apart c.are_same.result c.if-are_same.false c.are_same.ensures) (c.loop-pair.invariant types ok held ha)
