use Rattle.std.proofs.Common.{arith}
use Rattle.ab_steps.proofs.Following.{follows_on}
use Rattle.ab_search.proofs.Counting.{on_first}
use Rattle.ab_search.proofs.unfolding_steps.unfold.Goals as goal

pub returns-in_err-take-2-clause-follows : goal.returns-in_err-take-2-clause-follows
returns-in_err-take-2-clause-follows g c =
    follows_on c.args.world.now c.loop-term.world c.take-in-loop-term.new.world c.args.proof.now c.loop-term.proof c.take-in-loop-term.new.proof c.loop-term.invariant.follows c.take-in-loop-term.ensures.follows

pub returns-in_err-take-2-clause-steps : goal.returns-in_err-take-2-clause-steps
returns-in_err-take-2-clause-steps g c = omega (arith, c.loop-term.invariant.steps, c.take-in-loop-term.ensures.steps)

pub loop-term-preserved : goal.loop-term-preserved
loop-term-preserved g c = record {
  follows = follows_on c.args.world.now c.loop-term.world c.take-in-loop-term.new.world c.args.proof.now c.loop-term.proof c.take-in-loop-term.new.proof c.loop-term.invariant.follows c.take-in-loop-term.ensures.follows;
  gave = on_first c.args.world.now c.loop-term.world c.take-in-loop-term.new.world c.args.proof.now c.loop-term.proof c.take-in-loop-term.new.proof c.args.place 0 1 c.loop-term.invariant.gave c.in_ok-take-2.ensures.taken;
  steps = omega (arith, c.loop-term.invariant.steps, c.take-in-loop-term.ensures.steps);
}

pub returns-in_err-take-3-clause-follows : goal.returns-in_err-take-3-clause-follows
returns-in_err-take-3-clause-follows g c =
    follows_on c.args.world.now c.loop.world c.take-in-loop.new.world c.args.proof.now c.loop.proof c.take-in-loop.new.proof c.loop.invariant.follows c.take-in-loop.ensures.follows

pub returns-in_err-take-3-clause-steps : goal.returns-in_err-take-3-clause-steps
returns-in_err-take-3-clause-steps g c = omega (arith, c.loop.invariant.steps, c.take-in-loop.ensures.steps)

pub loop-preserved : goal.loop-preserved
loop-preserved g c = record {
  follows = follows_on c.args.world.now c.loop.world c.take-in-loop.new.world c.args.proof.now c.loop.proof c.take-in-loop.new.proof c.loop.invariant.follows c.take-in-loop.ensures.follows;
  gave = on_first c.args.world.now c.loop.world c.take-in-loop.new.world c.args.proof.now c.loop.proof c.take-in-loop.new.proof c.args.place 0 1 c.loop.invariant.gave c.in_ok-take-3.ensures.taken;
  steps = omega (arith, c.loop.invariant.steps, c.take-in-loop.ensures.steps);
}
