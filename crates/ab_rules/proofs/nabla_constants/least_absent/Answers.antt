use Rattle.std.proofs.Common.{arith}
use Rattle.ab_rules.proofs.Chosen.{seeks_first, seeks_more, one_fewer}
use Rattle.ab_rules.proofs.nabla_constants.least_absent.Goals as goal

pub loop-number-init : goal.loop-number-init
loop-number-init c = seeks_first c.args.numbers.now

pub loop-number-smaller : goal.loop-number-smaller
loop-number-smaller c = omega (arith, one_fewer c.loop-number.number c.args.numbers.now (c.has.ensures.0 c.loop-number-test.true))

pub loop-number-preserved : goal.loop-number-preserved
loop-number-preserved c = seeks_more c.args.numbers.now c.loop-number.number c.loop-number.invariant (c.has.ensures.0 c.loop-number-test.true)
