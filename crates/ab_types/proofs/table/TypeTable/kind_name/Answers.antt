use Rattle.std.proofs.Common.{◌∙◌, sym, ap, arith, length, option_copied}
use Rattle.ab_types.proofs.Kept.{kinds_are, kind_got}
use Rattle.ab_types.proofs.table.TypeTable.kind_name.Goals as goal

pub unwrap-requires : goal.unwrap-requires
unwrap-requires c =
    let same = ap length (kinds_are c.self.inside.order.items c.self.inside.kinds.keys c.self.inside.types.keys c.self.inside.constants.entries c.args.self.now c.self.view_is c.self.invariant) in
    c.get_index.ensures.found.1 (omega (arith, c.requires, same))

pub returns-clause-name : goal.returns-clause-name
returns-clause-name c =
    sym (kind_got c.self.inside.order.items c.self.inside.kinds.keys c.self.inside.types.keys c.self.inside.constants.entries c.args.self.now c.self.view_is c.self.invariant c.args.id c.unwrap.result.now (sym c.get_index.ensures.key ∙ ap option_copied c.unwrap.ensures))
