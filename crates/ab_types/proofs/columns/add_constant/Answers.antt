use Rattle.std.proofs.Common.{◌∙◌, ◌++◌, ◌∷◌, [], ap}
use Rattle.ab_types.specs.declared.columns.Sort.TheVariants.{Constant}
use Rattle.ab_types.proofs.Members.{insert_entry-behind}
use Rattle.ab_types.proofs.columns.add_constant.Goals as goal

pub returns-clause-added : goal.returns-clause-added
returns-clause-added c = (
  c.in_ok-insert.ensures.entries ∙ insert_entry-behind c.args.constants.now c.args.name c.args.ty c.requires,
  c.push_reserved.ensures.items ∙ ap (λ l. l ++ Constant ∷ []) c.in_ok-reserve.ensures.items,
)
