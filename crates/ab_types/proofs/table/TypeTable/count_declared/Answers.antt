use Rattle.std.proofs.Common.{ap, length, arith}
use Rattle.ab_types.proofs.Kept.{kinds_are, constants_len}
use Rattle.ab_types.proofs.table.TypeTable.count_declared.Goals as goal

pub returns : goal.returns
returns c = omega (
  arith,
  c.len.ensures.len,
  c.len-2.ensures.len,
  ap length (kinds_are c.self.inside.order.items c.self.inside.kinds.keys c.self.inside.types.keys c.self.inside.constants.entries c.args.self.now c.self.view_is c.self.invariant),
  constants_len c.self.inside.order.items c.self.inside.kinds.keys c.self.inside.types.keys c.self.inside.constants.entries c.args.self.now c.self.view_is c.self.invariant,
)
