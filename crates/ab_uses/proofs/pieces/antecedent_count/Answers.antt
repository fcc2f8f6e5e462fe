use Rattle.std.proofs.Common.{arith}
use Rattle.ab_logic.specs.Worlds.{read}
use Rattle.ab_uses.proofs.Layers.{count_implied}
use Rattle.ab_uses.proofs.pieces.antecedent_count.Goals as goal

pub layers-preserved : goal.layers-preserved
layers-preserved c =
    let k = c.layers.invariant in
    let e = c.in-Implication.ensures in
    let w = c.args.world.now in
    let more = count_implied (read w c.layers.rest) (read w c.in-Implication.field-0) (read w c.in-Implication.behind) (e.reads w.types) in
    record { held = omega (arith, k.held, e.below.1); counted = omega (arith, k.counted, more); bounded = omega (arith, k.bounded, e.below.1) }
