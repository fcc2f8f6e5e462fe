use Rattle.std.specs.Prelude.{[]}
use Rattle.std.specs.Option.{option_map}
use Rattle.std.proofs.Common.{◌≡◌, sym, ◌∙◌, ap, subst}
use Rattle.ab_grammar.specs.CommandTrees as told
use Rattle.ab_formulas.specs.Sequents.{formula_of}
use Rattle.ab_logic.specs.Worlds.{read}
use Rattle.ab_equations.specs.Labels.{label_of}
use Rattle.ab_effects.specs.ProofCommands.{clashing}
use Rattle.ab_meaning.specs.Refusals.{clash}
use Rattle.ab_steps.specs.ProofEffects.{IsRefused}
use Rattle.ab_steps.specs.ab_kernel.specs.Layout.{goals_of}
use Rattle.ab_steps.proofs.Following.{advances, first_at, one_at_least}
use Rattle.ab_hypothesis.proofs.Taking.{case_applied, case_refused}
use Rattle.ab_hypothesis.proofs.cases.case.Goals as goal

pub take_apart-came-requires-clause-there : goal.take_apart-came-requires-clause-there
take_apart-came-requires-clause-there g c =
    let w = c.args.world.now in
    let p = c.args.proof.now in
    let one = one_at_least (goals_of w p) c.requires.open in
    record {
      before = [];
      behind = one.1;
      goal = one.0;
      at = first_at w p one.0 one.1 one.2;
      has = ap (λ s. formula_of s c.args.name.now) (sym (c.first_goal-goal.ensures.reads one.0 one.1 one.2)) ∙ sym (c.in-Some-look.ensures.reads w);
    }

pub returns-in-None-clause-applied : goal.returns-in-None-clause-applied
returns-in-None-clause-applied g c =
    let w = c.args.world.now in
    let l = label_of c.args.label.now in
    case_applied w c.args.proof.now l c.args.keep c.args.name.now (read w c.in-Some-look.formula)
    (λ s rest e. ap (clashing l) (sym (c.first_goal-goal.ensures.reads s rest e)) ∙ sym (c.in_ok-clash.ensures w) ∙ ap (option_map clash) c.in_default.is)
    (λ s rest e. ap (λ k. formula_of k c.args.name.now) (sym (c.first_goal-goal.ensures.reads s rest e)) ∙ sym (c.in-Some-look.ensures.reads w))
    c.take_apart-came.new.world c.take_apart-came.new.proof (c.take_apart-came.ensures.taken (c.fault_of.ensures.taken c.in-None.is))

pub returns-in-Some-fault_of-clause-refused : goal.returns-in-Some-fault_of-clause-refused
returns-in-Some-fault_of-clause-refused g c fault e =
    let w = c.args.world.now in
    let l = label_of c.args.label.now in
    let came = c.take_apart-came.ensures in
    let is : c.in-Some-fault_of.fault ≡ fault = cc in
    subst (λ f. IsRefused l (told.case c.args.name.now c.args.keep) w c.args.proof.now f) is
    (case_refused w c.args.proof.now l c.args.keep c.args.name.now (read w c.in-Some-look.formula)
    (λ s rest e. ap (clashing l) (sym (c.first_goal-goal.ensures.reads s rest e)) ∙ sym (c.in_ok-clash.ensures w) ∙ ap (option_map clash) c.in_default.is)
    (λ s rest e. ap (λ k. formula_of k c.args.name.now) (sym (c.first_goal-goal.ensures.reads s rest e)) ∙ sym (c.in-Some-look.ensures.reads w))
    c.take_apart-came.result c.in-Some-fault_of.fault c.in-Some-fault_of.ensures.refused came.shapeless came.marked came.stuck came.stopped)

pub returns-in-Some-fault_of-clause-follows : goal.returns-in-Some-fault_of-clause-follows
returns-in-Some-fault_of-clause-follows g c =
    c.take_back.ensures.follows c.args.world.now c.args.proof.now (advances c.take_apart-came.ensures.follows) (c.steps-count.ensures c.args.world.now)

pub returns-in-Some-fault_of-clause-unchanged : goal.returns-in-Some-fault_of-clause-unchanged
returns-in-Some-fault_of-clause-unchanged g c =
    c.take_back.ensures.unchanged c.args.world.now c.args.proof.now (advances c.take_apart-came.ensures.follows) (c.steps-count.ensures c.args.world.now)
