use Rattle.ab_logic.specs.Worlds.{read}
use Rattle.ab_equations.specs.Labels.{label_of}
use Rattle.ab_steps.proofs.Following.{follows_on}
use Rattle.ab_hypothesis.proofs.Moves.{initial_sure, copied, not_named}
use Rattle.ab_hypothesis.proofs.goal_moves.copy.Goals as goal

pub surely-requires-clause-sure : goal.surely-requires-clause-sure
surely-requires-clause-sure g c =
    initial_sure c.args.world.now c.args.proof.now c.args.place c.args.name.now (read c.args.world.now c.args.formula) c.requires.there c.attempt.new.world c.attempt.new.proof
    (label_of c.args.label) c.attempt.ensures.follows.declared (c.in_ok-named.ensures.took c.if-named.true) c.in_ok-closing.closing c.in_ok-closing.ensures

pub returns-in_err-surely-clause-follows : goal.returns-in_err-surely-clause-follows
returns-in_err-surely-clause-follows g c = follows_on _ _ _ _ _ _ c.attempt.ensures.follows c.surely.ensures.follows

pub returns-in_ok-surely-clause-follows : goal.returns-in_ok-surely-clause-follows
returns-in_ok-surely-clause-follows g c = follows_on _ _ _ _ _ _ c.attempt.ensures.follows c.surely.ensures.follows

pub returns-in_ok-surely-clause-copied : goal.returns-in_ok-surely-clause-copied
returns-in_ok-surely-clause-copied g c true_is =
    copied c.args.world.now c.args.proof.now c.args.place c.args.name.now (read c.args.world.now c.args.formula) c.requires.there c.attempt.new.world c.surely.new.world c.attempt.new.proof c.surely.new.proof
    (label_of c.args.label) (c.in_ok-named.ensures.took c.if-named.true) c.in_ok-closing.closing c.in_ok-closing.ensures c.in_ok-surely.ensures.took

pub returns-else-named-clause-unnamed : goal.returns-else-named-clause-unnamed
returns-else-named-clause-unnamed g c false_is =
    not_named c.args.world.now c.args.proof.now c.args.place c.args.name.now (read c.args.world.now c.args.formula) c.requires.there (label_of c.args.label) c.requires.world c.requires.proof
    (c.in_ok-named.ensures.failed c.if-named.false)
