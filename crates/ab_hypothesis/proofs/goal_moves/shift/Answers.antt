use Rattle.ab_logic.specs.Worlds.{read}
use Rattle.ab_equations.specs.Labels.{label_of}
use Rattle.ab_steps.proofs.Following.{follows_on}
use Rattle.ab_hypothesis.proofs.Moves.{still_at, moved}
use Rattle.ab_hypothesis.proofs.goal_moves.shift.Goals as goal

pub forget-requires-clause-there : goal.forget-requires-clause-there
forget-requires-clause-there g c = (
  read c.args.world.now c.args.formula,
  still_at c.args.world.now c.args.proof.now c.args.place c.args.name.now (read c.args.world.now c.args.formula) c.requires.there c.copy.new.world c.copy.new.proof
      (label_of c.args.label) (c.in_ok-copied.ensures.copied c.if-copied.true),
)

pub returns-in_err-forget-clause-follows : goal.returns-in_err-forget-clause-follows
returns-in_err-forget-clause-follows g c = follows_on _ _ _ _ _ _ c.copy.ensures.follows c.forget.ensures.follows

pub returns-in_ok-forget-clause-follows : goal.returns-in_ok-forget-clause-follows
returns-in_ok-forget-clause-follows g c = follows_on _ _ _ _ _ _ c.copy.ensures.follows c.forget.ensures.follows

pub returns-in_ok-forget-clause-moved : goal.returns-in_ok-forget-clause-moved
returns-in_ok-forget-clause-moved g c true_is =
    moved c.args.world.now c.args.proof.now c.args.place c.args.name.now (read c.args.world.now c.args.formula) c.requires.there c.copy.new.world c.forget.new.world c.copy.new.proof c.forget.new.proof
    (label_of c.args.label) (c.in_ok-copied.ensures.copied c.if-copied.true) c.in_ok-forget.ensures.forgotten
