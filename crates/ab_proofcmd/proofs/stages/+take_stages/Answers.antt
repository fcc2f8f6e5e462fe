use Rattle.std.proofs.Common.{arith}
use Rattle.ab_hypothesis.specs.ab_steps.proofs.Following.{follows_on}
use Rattle.ab_hypothesis.proofs.Moves.{on_ok}
use Rattle.ab_proofcmd.proofs.Places.{gives_on}
use Rattle.ab_proofcmd.proofs.Staged.{rest_shorter, stages_rest}
use Rattle.ab_proofcmd.proofs.stages.+take_stages.Goals as goal

pub take_stages-requires : goal.take_stages-requires
take_stages-requires g t c κs within =
    let stages = c.args.stages.now in
    let some = c.in-len1-up.len_at_least in
    let follows = c.take_stage.ensures.follows in
    (omega (arith, rest_shorter stages some, c.decreases), (within, (follows.grows.world, (follows.proof, stages_rest c.args.world.now c.take_stage.new.world follows.grows stages some c.requires.stages))))

pub returns-in_ok-next-in-len1-up-clause-follows : goal.returns-in_ok-next-in-len1-up-clause-follows
returns-in_ok-next-in-len1-up-clause-follows g t c = follows_on _ _ _ _ _ _ c.take_stage.ensures.follows c.take_stages.ensures.follows

pub returns-in_ok-next-in-len1-up-clause-gives : goal.returns-in_ok-next-in-len1-up-clause-gives
returns-in_ok-next-in-len1-up-clause-gives g t c =
    on_ok c.take_stages.result
    (gives_on c.args.world.now c.take_stage.new.world c.take_stages.new.world c.args.proof.now c.take_stage.new.proof c.take_stages.new.proof c.args.place 0 0 c.in_ok-next-in-len1-up.ensures.gives)
    c.take_stages.ensures.gives
