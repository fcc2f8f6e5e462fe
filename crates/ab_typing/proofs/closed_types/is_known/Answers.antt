use Rattle.ab_typing.proofs.Sets.{typed_cmp, one_typed, is_in}
use Rattle.ab_typing.proofs.closed_types.is_known.Goals as goal

pub returns : goal.returns
returns c = is_in typed_cmp one_typed c.args.known.now.keys c.args.one c.contains.result c.contains.ensures
