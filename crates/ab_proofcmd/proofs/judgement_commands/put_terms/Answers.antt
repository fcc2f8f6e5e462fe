use Rattle.std.specs.Prelude.{OnOk}
use Rattle.std.proofs.Common.{List, ℕ, subst}
use Rattle.ab_formulas.specs.NewNames.{Label}
use Rattle.ab_equations.specs.Labels.{label_of}
use Rattle.ab_theory.specs.Steps.{spec_instance}
use Rattle.ab_hypothesis.specs.ab_steps.specs.ab_kernel.specs.ab_rules.specs.RuleAnswers.{replacements}
use Rattle.ab_hypothesis.specs.ab_steps.specs.Progress.{Took}
use Rattle.ab_hypothesis.specs.JudgementSteps.{IsntTaken}
use Rattle.ab_proofcmd.proofs.judgement_commands.put_terms.Goals as goal

pub returns-clause-took : goal.returns-clause-took
returns-clause-took g c =
    let done = λ (x : List ℕ) (l : Label). OnOk c.take_judgement_step.result (Took c.args.world.now c.args.proof.now c.take_judgement_step.new.world c.take_judgement_step.new.proof 0 (spec_instance x (replacements c.args.world.now c.args.replaces) l)) in
    subst (λ l. done c.args.name.now l) c.in_ok-given.ensures
    (subst (λ x. done x (label_of c.in_ok-given.given)) c.in_ok-own.ensures c.take_judgement_step.ensures.took)

pub returns-clause-refused : goal.returns-clause-refused
returns-clause-refused g c fault e =
    let not = λ (x : List ℕ) (l : Label). IsntTaken c.args.world.now c.args.proof.now (spec_instance x (replacements c.args.world.now c.args.replaces) l) fault in
    subst (λ l. not c.args.name.now l) c.in_ok-given.ensures
    (subst (λ x. not x (label_of c.in_ok-given.given)) c.in_ok-own.ensures (c.take_judgement_step.ensures.refused fault e))
