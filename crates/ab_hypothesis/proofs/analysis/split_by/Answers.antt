use Rattle.std.proofs.Common.{List, ℕ, subst}
use Rattle.ab_formulas.specs.NewNames.{given}
use Rattle.ab_theory.specs.Steps.{definition_left}
use Rattle.ab_steps.specs.Progress.{TookInto, FailsBy, StuckAt}
use Rattle.ab_steps.proofs.Following.{some_goal}
use Rattle.ab_hypothesis.proofs.analysis.split_by.Goals as goal

pub attempt_solving-requires-clause-place : goal.attempt_solving-requires-clause-place
attempt_solving-requires-clause-place g c = some_goal _ c.requires.open

pub returns-clause-took : goal.returns-clause-took
returns-clause-took g c n e =
    let w = c.args.world.now in
    let p = c.args.proof.now in
    let v = c.attempt_solving.new.world in
    let q = c.attempt_solving.new.proof in
    subst (λ z. TookInto w p v q 0 (definition_left c.args.own.now (given z)) n) c.in_ok-given.ensures
    (subst (λ z. TookInto w p v q 0 (definition_left z (given c.in_ok-given.given)) n) c.in_ok-name.ensures (c.attempt_solving.ensures.took n e))

pub returns-clause-failed : goal.returns-clause-failed
returns-clause-failed g c i e =
    let w = c.args.world.now in
    let p = c.args.proof.now in
    subst (λ z. FailsBy w p 0 (definition_left c.args.own.now (given z)) i) c.in_ok-given.ensures
    (subst (λ z. FailsBy w p 0 (definition_left z (given c.in_ok-given.given)) i) c.in_ok-name.ensures (c.attempt_solving.ensures.failed i e))

pub returns-clause-stuck : goal.returns-clause-stuck
returns-clause-stuck g c i e =
    let w = c.args.world.now in
    let p = c.args.proof.now in
    subst (λ z. StuckAt w p 0 (definition_left c.args.own.now (given z)) i) c.in_ok-given.ensures
    (subst (λ z. StuckAt w p 0 (definition_left z (given c.in_ok-given.given)) i) c.in_ok-name.ensures (c.attempt_solving.ensures.stuck i e))
