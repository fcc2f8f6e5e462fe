use Rattle.ab_typing.proofs.Sets.{typed_cmp, one_typed, gains_only}
use Rattle.ab_typing.proofs.closed_types.know.Goals as goal

pub returns : goal.returns
returns c = gains_only typed_cmp one_typed c.args.known.now.keys c.insert.new.self.keys c.args.one c.in_ok-insert.ensures.keys
