use Rattle.ab_steps.proofs.Following.{somewhere}
use Rattle.ab_steps.proofs.goal_steps.surely.Goals as goal

pub unreachable-requires : goal.unreachable-requires
unreachable-requires g c =
    let at = somewhere c.args.world.now c.args.proof.now c.args.place c.requires.place in
    let f = c.in_ok-taken.ensures.failed c.if-taken.false at.before at.behind at.goal at.at in
    c.requires.sure at.before at.behind at.goal at.at f.0 f.1

pub returns-clause-owes : goal.returns-clause-owes
returns-clause-owes g c = c.in_ok-taken.ensures.owes c.if-taken.true
