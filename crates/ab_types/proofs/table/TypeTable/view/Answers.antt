use Rattle.std.proofs.Common.{◌∙◌, sym, ap, arith, option_copied}
use Rattle.ab_types.proofs.Kept.{types_len, type_got}
use Rattle.ab_types.proofs.table.TypeTable.view.Goals as goal

pub unwrap-requires : goal.unwrap-requires
unwrap-requires c =
    let same = types_len c.self.inside.order.items c.self.inside.kinds.keys c.self.inside.types.keys c.self.inside.constants.entries c.args.self.now c.self.view_is c.self.invariant in
    c.get_index.ensures.found.1 (omega (arith, c.requires, same))

pub returns-clause-held : goal.returns-clause-held
returns-clause-held c =
    (type_got c.self.inside.order.items c.self.inside.kinds.keys c.self.inside.types.keys c.self.inside.constants.entries c.args.self.now c.self.view_is c.self.invariant c.args.ty c.unwrap.result.now (sym c.get_index.ensures.key ∙ ap option_copied c.unwrap.ensures)).0

pub returns-clause-reads : goal.returns-clause-reads
returns-clause-reads c =
    (type_got c.self.inside.order.items c.self.inside.kinds.keys c.self.inside.types.keys c.self.inside.constants.entries c.args.self.now c.self.view_is c.self.invariant c.args.ty c.unwrap.result.now (sym c.get_index.ensures.key ∙ ap option_copied c.unwrap.ensures)).1
