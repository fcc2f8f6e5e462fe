use Rattle.std.proofs.Common.{◌∙◌, sym}
use Rattle.ab_logic.proofs.Counting.{as_many}
use Rattle.ab_logic.proofs.world.World.len.Goals as goal

pub returns-clause-declared : goal.returns-clause-declared
returns-clause-declared c = c.len.ensures ∙ sym (as_many c.args.self.now 0 c.args.self.now.additions)
