use Rattle.std.specs.Prelude.{Err, ◌≡◌, map}
use Rattle.std.proofs.Common.{inl, inr, refl, sym, ◌∙◌, ap, subst}
use Rattle.ab_grammar.specs.CommandTrees as told
use Rattle.ab_syntax.specs.Commands.{argument_of, instance_of}
use Rattle.ab_logic.specs.SequentReadings.{sequent_of}
use Rattle.ab_equations.specs.Labels.{label_of}
use Rattle.ab_hypothesis.specs.ab_steps.specs.ab_kernel.proofs.Later.{same_history, still_proof}
use Rattle.ab_hypothesis.specs.ab_steps.specs.ProofEffects.{IsRefused}
use Rattle.ab_hypothesis.specs.ab_steps.specs.declared.fault.ProofCommandFault.TheVariants.{NamesSpent, Memory}
use Rattle.ab_effects.specs.ProofCommands.{is_used}
use Rattle.ab_effects.specs.Debts.{taken_unless}
use Rattle.ab_hypothesis.specs.ab_steps.proofs.Following.{advances, advances_on, owes_before}
use Rattle.ab_proofcmd.proofs.Given.{same_fault}
use Rattle.ab_proofcmd.proofs.Carried.{first_sequent, same_goals, follows_world, refused_at, on_err, apply_done, apply_spent}
use Rattle.ab_proofcmd.proofs.application.apply.Goals as goal

pub ask-requires-clause-sequent : goal.ask-requires-clause-sequent
ask-requires-clause-sequent g c =
    let w = c.args.world.now in
    first_sequent w c.requires.world c.args.proof.now c.requires.proof c.requires.open (sequent_of w c.first_goal-goal.result.now) c.first_goal-goal.ensures.reads

pub returns-in_err-asked-clause-follows : goal.returns-in_err-asked-clause-follows
returns-in_err-asked-clause-follows g c = advances (follows_world c.args.world.now c.ask.new.world c.args.proof.now c.ask.ensures.grows c.ask.ensures.declared c.requires.proof)

pub returns-in_err-asked-clause-refused : goal.returns-in_err-asked-clause-refused
returns-in_err-asked-clause-refused g c fault same =
    let w = c.args.world.now in
    let cause = c.in_err-asked.field-0.0 in
    let command = told.apply c.args.name.now (map argument_of c.args.arguments.now) (map instance_of c.args.given.now) in
    subst (IsRefused (label_of c.args.label.now) command w c.args.proof.now) (same_fault c.from_residual.result cause fault c.from_residual.ensures.1 same)
    (refused_at w c.args.proof.now (sequent_of w c.first_goal-goal.result.now) c.first_goal-goal.ensures.reads (label_of c.args.label.now) command cause (c.in_err-asked.ensures.refused cause refl))

pub carry_out-requires-clause-proof : goal.carry_out-requires-clause-proof
carry_out-requires-clause-proof g c = still_proof c.args.world.now c.ask.new.world c.ask.ensures.grows c.ask.ensures.declared c.args.proof.now c.requires.proof

pub carry_out-requires-clause-open : goal.carry_out-requires-clause-open
carry_out-requires-clause-open g c none =
    c.requires.open (sym (same_goals c.args.world.now c.ask.new.world c.args.proof.now c.ask.ensures.grows c.requires.proof) ∙ none)

pub carry_out-requires-clause-asked : goal.carry_out-requires-clause-asked
carry_out-requires-clause-asked g c = c.in_ok-asked.ensures.asked.0

pub returns-in-Ok-clause-follows : goal.returns-in-Ok-clause-follows
returns-in-Ok-clause-follows g c =
    advances_on _ _ _ _ _ _ (advances (follows_world c.args.world.now c.ask.new.world c.args.proof.now c.ask.ensures.grows c.ask.ensures.declared c.requires.proof)) c.carry_out.ensures.follows

pub returns-in-Ok-clause-owes : goal.returns-in-Ok-clause-owes
returns-in-Ok-clause-owes g c s rest e =
    let w = c.args.world.now in
    let m = c.ask.new.world in
    let p = c.args.proof.now in
    let H = c.args.name.now in
    owes_before (taken_unless (is_used s H) H) w m c.carry_out.new.world p p c.carry_out.new.proof (follows_world w m p c.ask.ensures.grows c.ask.ensures.declared c.requires.proof).owes
    (c.in-Ok.ensures.owes s rest (same_goals w m p c.ask.ensures.grows c.requires.proof ∙ e))

pub returns-in-Ok-clause-applied : goal.returns-in-Ok-clause-applied
returns-in-Ok-clause-applied g c =
    let w = c.args.world.now in
    let m = c.ask.new.world in
    let p = c.args.proof.now in
    apply_done w m p c.first_goal-goal.result.now (same_goals w m p c.ask.ensures.grows c.requires.proof) c.ask.ensures.declared c.first_goal-goal.ensures.reads c.in_ok-asked.asked
    c.args.name.now (map instance_of c.args.given.now) (label_of c.args.label.now) (map argument_of c.args.arguments.now) c.in_ok-asked.ensures.asked c.carry_out.new.world c.carry_out.new.proof
    c.in-Ok.ensures.left

pub returns-clause-follows : goal.returns-clause-follows
returns-clause-follows g c =
    advances_on _ _ _ _ _ _ (advances (follows_world c.args.world.now c.ask.new.world c.args.proof.now c.ask.ensures.grows c.ask.ensures.declared c.requires.proof))
    (advances (c.take_back.ensures.follows c.ask.new.world c.args.proof.now c.carry_out.ensures.follows (c.steps-count.ensures c.ask.new.world)))

pub returns-clause-refused : goal.returns-clause-refused
returns-clause-refused g c fault same =
    let w = c.args.world.now in
    let m = c.ask.new.world in
    let p = c.args.proof.now in
    let l = label_of c.args.label.now in
    let vs = map argument_of c.args.arguments.now in
    let is = map instance_of c.args.given.now in
    elim c.fault_of.ensures [
      | inl t ↦
          let one : NamesSpent ≡ fault = cc in
          subst (IsRefused l (told.apply c.args.name.now vs is) w p) one
          (apply_spent w m p c.first_goal-goal.result.now (same_goals w m p c.ask.ensures.grows c.requires.proof) c.ask.ensures.declared c.first_goal-goal.ensures.reads c.in_ok-asked.asked
          c.args.name.now is l vs c.in_ok-asked.ensures.asked (c.carry_out.ensures.stopped (c.in-Err.is ∙ ap Err t.0)))
      | inr t ↦ let one : Memory t.0 ≡ fault = cc in subst (IsRefused l (told.apply c.args.name.now vs is) w p) one (λ s rest e. tt)
    ]

pub returns-clause-unchanged : goal.returns-clause-unchanged
returns-clause-unchanged g c =
    c.take_back.ensures.unchanged c.ask.new.world c.args.proof.now c.carry_out.ensures.follows (c.steps-count.ensures c.ask.new.world)
    ∙ same_history c.args.world.now c.ask.new.world c.ask.ensures.grows c.args.proof.now c.requires.proof

pub returns-in_err-asked-clause-unchanged : goal.returns-in_err-asked-clause-unchanged
returns-in_err-asked-clause-unchanged g c =
    on_err c.from_residual.result (same_history c.args.world.now c.ask.new.world c.ask.ensures.grows c.args.proof.now c.requires.proof)
