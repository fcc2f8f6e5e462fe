use Rattle.std.proofs.Common.{arith}
use Rattle.ab_types.proofs.Kept.{len}
use Rattle.ab_types.proofs.table.TypeTable.len.Goals as goal

pub returns-clause-len : goal.returns-clause-len
returns-clause-len c = omega (arith, c.len.ensures, c.self.inside.order.ok.0, len c.self.inside.order.items c.self.inside.kinds.keys c.self.inside.types.keys c.self.inside.constants.entries c.args.self.now c.self.view_is c.self.invariant)
