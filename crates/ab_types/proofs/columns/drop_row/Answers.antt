use Rattle.std.proofs.Common.{◌∙◌, ap, ◌++◌, ◌∷◌, []}
use Rattle.ab_types.proofs.Merging.{drop_kind, drop_type, drop_constant}
use Rattle.ab_types.proofs.columns.drop_row.Goals as goal

pub returns-in-Some-Kind : goal.returns-in-Some-Kind
returns-in-Some-Kind c =
    drop_kind c.args.order.now.items c.pop.new.self.items c.args.kinds.now.keys c.pop-in-Some-Kind.new.self.keys c.args.types.now.keys c.args.types.now.keys c.args.constants.now.entries c.args.constants.now.entries
    c.pop-in-Some-Kind.result (c.in-Some-Kind.ensures.items ∙ ap (λ s. c.pop.new.self.items ++ s ∷ []) c.in-Some-Kind.field-0-is) c.pop-in-Some-Kind.ensures.keys c.pop-in-Some-Kind.ensures.found c.requires.fits

pub returns-in-Some-Ty : goal.returns-in-Some-Ty
returns-in-Some-Ty c =
    drop_type c.args.order.now.items c.pop.new.self.items c.args.kinds.now.keys c.args.kinds.now.keys c.args.types.now.keys c.pop-in-Some-Ty.new.self.keys c.args.constants.now.entries c.args.constants.now.entries
    c.pop-in-Some-Ty.result (c.in-Some-Ty.ensures.items ∙ ap (λ s. c.pop.new.self.items ++ s ∷ []) c.in-Some-Ty.field-0-is) c.pop-in-Some-Ty.ensures.keys c.pop-in-Some-Ty.ensures.found c.requires.fits

pub returns-in-Some-Constant : goal.returns-in-Some-Constant
returns-in-Some-Constant c =
    drop_constant c.args.order.now.items c.pop.new.self.items c.args.kinds.now.keys c.args.kinds.now.keys c.args.types.now.keys c.args.types.now.keys c.args.constants.now.entries c.pop-in-Some-Constant.new.self.entries
    c.pop-in-Some-Constant.result (c.in-Some-Constant.ensures.items ∙ ap (λ s. c.pop.new.self.items ++ s ∷ []) c.in-Some-Constant.field-0-is) c.pop-in-Some-Constant.ensures.entries c.pop-in-Some-Constant.ensures.found c.requires.fits
