use Rattle.std.specs.Prelude.{Ok}
use Rattle.std.proofs.Common.{refl, ◌∙◌, ap}
use Rattle.ab_logic.specs.Worlds.{read}
use Rattle.ab_equations.specs.Labels.{label_of}
use Rattle.ab_steps.proofs.Following.{follows_on}
use Rattle.ab_hypothesis.proofs.Taking.{begun_there}
use Rattle.ab_hypothesis.proofs.Solving.{first_there, still_open, equal_taken, equal_stuck, equal_never_fails}
use Rattle.ab_hypothesis.proofs.cases.take_equal.Goals as goal

pub first_over_cells-requires-clause-open : goal.first_over_cells-requires-clause-open
first_over_cells-requires-clause-open g c =
    let F = read c.args.world.now c.args.formula in
    still_open c.begin.new.world c.begin.new.proof c.in_ok-own.own F
    (begun_there c.args.world.now c.begin.new.world c.args.proof.now c.begin.new.proof c.args.keep c.args.name.now c.in_ok-own.own F F refl c.requires.open c.in_ok-own.ensures.begun)

pub attempt_solving-requires-clause-place : goal.attempt_solving-requires-clause-place
attempt_solving-requires-clause-place g c =
    let F = read c.args.world.now c.args.formula in
    first_there c.begin.new.world c.begin.new.proof c.in_ok-own.own F
    (begun_there c.args.world.now c.begin.new.world c.args.proof.now c.begin.new.proof c.args.keep c.args.name.now c.in_ok-own.own F F refl c.requires.open c.in_ok-own.ensures.begun)

pub returns-in_err-attempt_solving-clause-follows : goal.returns-in_err-attempt_solving-clause-follows
returns-in_err-attempt_solving-clause-follows g c = follows_on _ _ _ _ _ _ c.begin.ensures.follows c.attempt_solving.ensures.follows

pub unreachable-requires : goal.unreachable-requires
unreachable-requires g c =
    equal_never_fails c.args.world.now c.begin.new.world c.args.proof.now c.begin.new.proof c.args.keep c.args.name.now c.in_ok-own.own c.in_ok-own.own (read c.args.world.now c.args.formula)
    (label_of c.args.label.now) c.requires.form refl c.begin.ensures.follows.declared c.in_ok-own.ensures.begun c.requires.open c.in-Failed.field-0
    (c.attempt_solving.ensures.failed c.in-Failed.field-0 (c.in_ok-attempt_solving.was ∙ ap Ok c.in-Failed.is))

pub returns-in-Taken-clause-follows : goal.returns-in-Taken-clause-follows
returns-in-Taken-clause-follows g c = follows_on _ _ _ _ _ _ c.begin.ensures.follows c.attempt_solving.ensures.follows

pub returns-in-Taken-clause-taken : goal.returns-in-Taken-clause-taken
returns-in-Taken-clause-taken g c holds =
    equal_taken c.args.world.now c.begin.new.world c.args.proof.now c.begin.new.proof c.args.keep c.args.name.now c.in_ok-own.own c.in_ok-own.own (read c.args.world.now c.args.formula)
    (label_of c.args.label.now) c.requires.form refl c.begin.ensures.follows.declared c.in_ok-own.ensures.begun c.attempt_solving.new.world c.attempt_solving.new.proof c.in-Taken.field-0
    (c.attempt_solving.ensures.took c.in-Taken.field-0 (c.in_ok-attempt_solving.was ∙ ap Ok c.in-Taken.is))

pub returns-in-Stuck-clause-follows : goal.returns-in-Stuck-clause-follows
returns-in-Stuck-clause-follows g c = follows_on _ _ _ _ _ _ c.begin.ensures.follows c.attempt_solving.ensures.follows

pub returns-in-Stuck-clause-stuck : goal.returns-in-Stuck-clause-stuck
returns-in-Stuck-clause-stuck g c fails =
    equal_stuck c.args.world.now c.begin.new.world c.args.proof.now c.begin.new.proof c.args.keep c.args.name.now c.in_ok-own.own c.in_ok-own.own (read c.args.world.now c.args.formula)
    (label_of c.args.label.now) c.requires.form refl c.begin.ensures.follows.declared c.in_ok-own.ensures.begun c.first_over_cells.ensures c.in-Stuck.field-0
    (c.attempt_solving.ensures.stuck c.in-Stuck.field-0 (c.in_ok-attempt_solving.was ∙ ap Ok c.in-Stuck.is))
