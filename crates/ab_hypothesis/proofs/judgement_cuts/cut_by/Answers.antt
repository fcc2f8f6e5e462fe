use Rattle.std.specs.Prelude.{OnOk}
use Rattle.std.proofs.Common.{List, ℕ, subst}
use Rattle.ab_formulas.specs.NewNames.{Label}
use Rattle.ab_equations.specs.Labels.{label_of}
use Rattle.ab_theory.specs.Steps.{spec_cut}
use Rattle.ab_steps.specs.Progress.{Took}
use Rattle.ab_hypothesis.specs.JudgementSteps.{IsntTaken}
use Rattle.ab_hypothesis.proofs.judgement_cuts.cut_by.Goals as goal

pub returns-clause-took : goal.returns-clause-took
returns-clause-took g c =
    let done = λ (x y : List ℕ) (l : Label). OnOk c.take_judgement_step.result (Took c.args.world.now c.args.proof.now c.take_judgement_step.new.world c.take_judgement_step.new.proof 0 (spec_cut x y l)) in
    subst (λ l. done c.args.name.now c.args.other.now l) c.in_ok-given.ensures
    (subst (λ y. done c.args.name.now y (label_of c.in_ok-given.given)) c.in_ok-second.ensures
    (subst (λ x. done x c.in_ok-second.second (label_of c.in_ok-given.given)) c.in_ok-first.ensures c.take_judgement_step.ensures.took))

pub returns-clause-refused : goal.returns-clause-refused
returns-clause-refused g c fault e =
    let not = λ (x y : List ℕ) (l : Label). IsntTaken c.args.world.now c.args.proof.now (spec_cut x y l) fault in
    subst (λ l. not c.args.name.now c.args.other.now l) c.in_ok-given.ensures
    (subst (λ y. not c.args.name.now y (label_of c.in_ok-given.given)) c.in_ok-second.ensures
    (subst (λ x. not x c.in_ok-second.second (label_of c.in_ok-given.given)) c.in_ok-first.ensures (c.take_judgement_step.ensures.refused fault e)))
