use Rattle.std.proofs.Common.{◌∙◌}
use Rattle.ab_typing.proofs.Names.{same_search}
use Rattle.ab_typing.proofs.stratification.is_predicate.Goals as goal

pub returns : goal.returns
returns c = c.contains.ensures.value ∙ same_search c.args.types.now c.has_unique_ids.ensures.constants c.args.constant c.requires.constant c.args.predicates.now c.requires.predicates
