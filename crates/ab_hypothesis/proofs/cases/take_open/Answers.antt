use Rattle.ab_logic.specs.Worlds.{read}
use Rattle.ab_equations.specs.Labels.{label_of}
use Rattle.ab_steps.proofs.Following.{follows_on}
use Rattle.ab_hypothesis.proofs.Moves.{on_ok}
use Rattle.ab_hypothesis.proofs.Taking.{begun_there, opened_apart, opened_stops}
use Rattle.ab_hypothesis.proofs.cases.take_open.Goals as goal

pub open_one-requires-clause-formula : goal.open_one-requires-clause-formula
open_one-requires-clause-formula g c = c.begin.ensures.follows.grows.ids c.args.formula c.requires.formula

pub open_one-requires-clause-there : goal.open_one-requires-clause-there
open_one-requires-clause-there g c =
    begun_there c.args.world.now c.begin.new.world c.args.proof.now c.begin.new.proof c.args.keep c.args.name.now c.in_ok-own.own (read c.args.world.now c.args.formula) (read c.begin.new.world c.args.formula)
    (c.begin.ensures.follows.grows.readings c.args.formula c.requires.formula) c.requires.open c.in_ok-own.ensures.begun

pub returns-clause-follows : goal.returns-clause-follows
returns-clause-follows g c = follows_on _ _ _ _ _ _ c.begin.ensures.follows c.open_one.ensures.follows

pub returns-clause-taken : goal.returns-clause-taken
returns-clause-taken g c =
    on_ok c.open_one.result
    (opened_apart c.args.world.now c.begin.new.world c.open_one.new.world c.args.proof.now c.begin.new.proof c.open_one.new.proof c.args.keep c.args.name.now c.in_ok-own.own
    (read c.args.world.now c.args.formula) (read c.begin.new.world c.args.formula) (label_of c.args.label.now) c.requires.form (c.begin.ensures.follows.grows.readings c.args.formula c.requires.formula)
    c.begin.ensures.follows.declared c.in_ok-own.ensures.begun)
    c.open_one.ensures.opened

pub returns-clause-stopped : goal.returns-clause-stopped
returns-clause-stopped g c spent =
    opened_stops c.args.world.now c.begin.new.world c.open_one.new.world c.args.proof.now c.begin.new.proof c.open_one.new.proof c.args.keep c.args.name.now c.in_ok-own.own
    (read c.args.world.now c.args.formula) (read c.begin.new.world c.args.formula) (label_of c.args.label.now) c.requires.form (c.begin.ensures.follows.grows.readings c.args.formula c.requires.formula)
    c.begin.ensures.follows.declared c.in_ok-own.ensures.begun (c.open_one.ensures.stopped spent)
