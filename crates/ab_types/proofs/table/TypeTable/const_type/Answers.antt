use Rattle.std.proofs.Common.{◌∙◌, sym, ap, arith, option_map, Some}
use Rattle.std.specs.Map.Iter.{deref_pair}
use Rattle.ab_term.specs.Constants.{Constant}
use Rattle.ab_types.proofs.Kept.{is_table, constants_len, constant_got, own_type}
use Rattle.ab_types.proofs.table.TypeTable.const_type.Goals as goal

pub unwrap-requires : goal.unwrap-requires
unwrap-requires c =
    let same = constants_len c.self.inside.order.items c.self.inside.kinds.keys c.self.inside.types.keys c.self.inside.constants.entries c.args.self.now c.self.view_is c.self.invariant in
    c.get_index.ensures.found.1 (omega (arith, c.requires, same))

pub returns-clause-held : goal.returns-clause-held
returns-clause-held c =
    (constant_got c.self.inside.order.items c.self.inside.kinds.keys c.self.inside.types.keys c.self.inside.constants.entries c.args.self.now c.self.view_is c.self.invariant c.args.id (c.unwrap.result.0.now, c.unwrap.result.1.now) (sym c.get_index.ensures.entry ∙ ap (option_map deref_pair) c.unwrap.ensures)).0

pub returns-clause-reads : goal.returns-clause-reads
returns-clause-reads c =
    sym (ap (λ (d : Constant). d.type) (constant_got c.self.inside.order.items c.self.inside.kinds.keys c.self.inside.types.keys c.self.inside.constants.entries c.args.self.now c.self.view_is c.self.invariant c.args.id (c.unwrap.result.0.now, c.unwrap.result.1.now) (sym c.get_index.ensures.entry ∙ ap (option_map deref_pair) c.unwrap.ensures)).1)

pub returns-clause-signature : goal.returns-clause-signature
returns-clause-signature c =
    own_type c.args.self.now (is_table c.self.inside.order.items c.self.inside.kinds.keys c.self.inside.types.keys c.self.inside.constants.entries c.args.self.now c.self.view_is c.self.invariant) c.args.id c.requires
    ∙ ap (λ (d : Constant). Some d.type) (constant_got c.self.inside.order.items c.self.inside.kinds.keys c.self.inside.types.keys c.self.inside.constants.entries c.args.self.now c.self.view_is c.self.invariant c.args.id (c.unwrap.result.0.now, c.unwrap.result.1.now) (sym c.get_index.ensures.entry ∙ ap (option_map deref_pair) c.unwrap.ensures)).1
