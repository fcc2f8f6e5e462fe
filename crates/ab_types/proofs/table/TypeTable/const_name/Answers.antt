use Rattle.std.proofs.Common.{◌∙◌, sym, ap, arith, option_map}
use Rattle.std.specs.Map.Iter.{deref_pair}
use Rattle.ab_term.specs.Constants.{Constant}
use Rattle.ab_types.proofs.Kept.{constants_len, constant_got}
use Rattle.ab_types.proofs.table.TypeTable.const_name.Goals as goal

pub unwrap-requires : goal.unwrap-requires
unwrap-requires c =
    let same = constants_len c.self.inside.order.items c.self.inside.kinds.keys c.self.inside.types.keys c.self.inside.constants.entries c.args.self.now c.self.view_is c.self.invariant in
    c.get_index.ensures.found.1 (omega (arith, c.requires, same))

pub returns-clause-name : goal.returns-clause-name
returns-clause-name c =
    sym (ap (λ (d : Constant). d.name) (constant_got c.self.inside.order.items c.self.inside.kinds.keys c.self.inside.types.keys c.self.inside.constants.entries c.args.self.now c.self.view_is c.self.invariant c.args.id (c.unwrap.result.0.now, c.unwrap.result.1.now) (sym c.get_index.ensures.entry ∙ ap (option_map deref_pair) c.unwrap.ensures)).1)
