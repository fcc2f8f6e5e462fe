use Rattle.std.proofs.Common.{rules}
use Rattle.ab_rules.proofs.left_rules.weaken.Goals as goal

pub returns : goal.returns
returns c =
    let w = c.args.world.now in
    let found = c.in-Some.ensures.reads w in
    search rules
