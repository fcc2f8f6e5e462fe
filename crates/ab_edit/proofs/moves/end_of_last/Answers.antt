use Rattle.ab_edit.proofs.Ends.{last_is}
use Rattle.ab_edit.proofs.moves.end_of_last.Goals as goal

pub returns-else-is_empty : goal.returns-else-is_empty
returns-else-is_empty c = last_is c.args.ends.now
