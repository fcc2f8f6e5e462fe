use Rattle.std.proofs.Common.{◌∙◌, ◌++◌, ◌∷◌, [], ap}
use Rattle.ab_types.specs.declared.columns.Sort.TheVariants.{Kind}
use Rattle.ab_types.proofs.Members.{no_name, insert_name-new, first_name-new}
use Rattle.ab_types.proofs.columns.add_kind.Goals as goal

pub returns-clause-place : goal.returns-clause-place
returns-clause-place c = c.in_ok-place.ensures.index ∙ first_name-new c.args.kinds.now.keys c.args.name (no_name c.args.kinds.now.keys c.args.name c.requires)

pub returns-clause-added : goal.returns-clause-added
returns-clause-added c = (
  c.in_ok-place.ensures.keys ∙ insert_name-new c.args.kinds.now.keys c.args.name (no_name c.args.kinds.now.keys c.args.name c.requires),
  c.push_reserved.ensures.items ∙ ap (λ l. l ++ Kind ∷ []) c.in_ok-reserve.ensures.items,
)
